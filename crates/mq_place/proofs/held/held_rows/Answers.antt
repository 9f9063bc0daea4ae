use Rattle.std.proofs.Common.{List, ◌++◌, ◌+◌, refl, sym, ap, ◌∙◌, arith}
use Rattle.mq_calls.specs.declared.records.Remove.{Remove}
use Rattle.mq_place.specs.States.{held_rows}
use Rattle.mq_place.specs.Slots.{present, slot_at}
use Rattle.mq_place.specs.Held.{held_at_slot, held_from}
use Rattle.mq_place.proofs.HeldLaws.{short_at, slots_next, slots_end}
use Rattle.mq_place.proofs.held.held_rows.Goals as goal

pub loop-at-init : goal.loop-at-init
loop-at-init g c = record { told = refl; room = omega arith }

pub loop-at-preserved : goal.loop-at-preserved
loop-at-preserved g c = record {
  told = ap (λ (rs : List Remove). rs ++ held_from c.args.by.now (c.loop-at.at + 1) c.args.slots.now.items) c.in-Ok.ensures.rows
      ∙ slots_next c.loop-at.rows.rows c.args.by.now c.args.slots.now.items c.loop-at.at ∙ c.loop-at.invariant.told;
  room = omega (arith, c.loop-at.invariant.room, c.in-Ok.ensures.room);
}

pub returns-in-Err-clause-room : goal.returns-in-Err-clause-room
returns-in-Err-clause-room g c = omega (arith, c.loop-at.invariant.room, c.in-Err.ensures.room)

pub returns-in-Err-clause-memory : goal.returns-in-Err-clause-memory
returns-in-Err-clause-memory g c =
    let slots = c.args.slots.now.items in
    let by = c.args.by.now in
    short_at c.loop-at.rows.rows (held_at_slot by (slot_at slots c.loop-at.at)) (held_from by (c.loop-at.at + 1) slots) c.args.rows.now.rows (held_rows by (present slots)) c.args.rows.now.room c.loop-at.rows.room
    (slots_next c.loop-at.rows.rows by slots c.loop-at.at ∙ c.loop-at.invariant.told) c.loop-at.invariant.room c.in-Err.ensures.memory

pub returns-clause-rows : goal.returns-clause-rows
returns-clause-rows g c =
    sym (slots_end c.loop-at.rows.rows c.args.by.now c.args.slots.now.items c.loop-at.at (omega (arith, c.loop-at-test.false, c.len-at-end.ensures, c.args.slots.now.ok)))
    ∙ c.loop-at.invariant.told

pub returns-clause-room : goal.returns-clause-room
returns-clause-room g c = c.loop-at.invariant.room
