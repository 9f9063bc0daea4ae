use Rattle.std.proofs.Common.{arith, suc, ◌≡◌, ◌+◌, subst, ℕ}
use Rattle.mq_index.proofs.MoveLaws.{Moved, may_come, moved_end, moved_first, moved_next, slot_there}
use Rattle.mq_index.proofs.pack.move_rows.Goals as goal

pub loop-at-init : goal.loop-at-init
loop-at-init c = moved_first c.args.from.now c.args.to.now c.slots-at-end.ensures.sound c.requires.empty c.requires.first

pub move_row-requires : goal.move_row-requires
move_row-requires c = record {
  there = omega (arith, c.loop-at-test.true, c.slots-at-end.ensures.slots, c.loop-at.invariant.long);
  may = λ row there. may_come c.args.from.now.slots c.args.from.now.arrivals c.args.to.now.room c.loop-at.at c.slots-at-end.ensures.sound c.loop-at.from c.loop-at.to c.loop-at.invariant row c.requires.enough there;
}

pub loop-at-preserved : goal.loop-at-preserved
loop-at-preserved c =
    let s = slot_there c.loop-at.from.slots c.loop-at.at (omega (arith, c.loop-at-test.true, c.slots-at-end.ensures.slots, c.loop-at.invariant.long)) in
    let next : suc c.loop-at.at ≡ c.loop-at.at + 1 = omega arith in
    subst (λ (n : ℕ). Moved c.args.from.now.slots c.args.from.now.arrivals c.args.to.now.room n c.move_row.new.from c.move_row.new.to) next
    (moved_next c.args.from.now.slots c.args.from.now.arrivals c.args.to.now.room c.loop-at.at c.slots-at-end.ensures.sound c.loop-at.from c.loop-at.to c.loop-at.invariant s.0 c.move_row.new.from c.move_row.new.to s.1 c.move_row.ensures.from (c.move_row.ensures.come s.0 s.1))

pub returns-clause-rows : goal.returns-clause-rows
returns-clause-rows c = (moved_end c.args.from.now.slots c.args.from.now.arrivals c.args.to.now.room c.loop-at.at c.loop-at.from c.loop-at.to (omega (arith, c.loop-at-test.false, c.loop-at.auto.at-end, c.slots-at-end.ensures.slots)) c.loop-at.invariant).0

pub returns-clause-room : goal.returns-clause-room
returns-clause-room c = (moved_end c.args.from.now.slots c.args.from.now.arrivals c.args.to.now.room c.loop-at.at c.loop-at.from c.loop-at.to (omega (arith, c.loop-at-test.false, c.loop-at.auto.at-end, c.slots-at-end.ensures.slots)) c.loop-at.invariant).1

pub returns-clause-arrivals : goal.returns-clause-arrivals
returns-clause-arrivals c = (moved_end c.args.from.now.slots c.args.from.now.arrivals c.args.to.now.room c.loop-at.at c.loop-at.from c.loop-at.to (omega (arith, c.loop-at-test.false, c.loop-at.auto.at-end, c.slots-at-end.ensures.slots)) c.loop-at.invariant).2
