use Rattle.std.proofs.Common.{refl, sym, ◌∙◌, arith}
use Rattle.mq_queue.specs.Rows.{keep}
use Rattle.mq_place.specs.States.{is_other_row, on_rows}
use Rattle.mq_place.proofs.EveryLaws.{changed_none, changed_next, changed_end}
use Rattle.mq_place.proofs.held.remove_held.Goals as goal

pub loop-at-init : goal.loop-at-init
loop-at-init g c = record { so_far = sym (changed_none (on_rows (keep (is_other_row c.args.by.now))) c.args.slots.now.items); len = refl; capacity = refl }

pub loop-at-preserved : goal.loop-at-preserved
loop-at-preserved g c = record {
  so_far = changed_next (on_rows (keep (is_other_row c.args.by.now))) c.args.slots.now.items c.loop-at.slots.items c.remove_held_at.new.slots.items c.loop-at.at c.loop-at.invariant.so_far c.remove_held_at.ensures.slots;
  len = c.remove_held_at.ensures.len ∙ c.loop-at.invariant.len;
  capacity = c.remove_held_at.ensures.capacity ∙ c.loop-at.invariant.capacity;
}

pub returns-clause-slots : goal.returns-clause-slots
returns-clause-slots g c =
    changed_end (on_rows (keep (is_other_row c.args.by.now))) c.args.slots.now.items c.loop-at.slots.items c.loop-at.at c.loop-at.invariant.so_far
    (omega (arith, c.loop-at-test.false, c.loop-at.auto.at-end, c.len-at-end.ensures, c.loop-at.invariant.len, c.args.slots.now.ok))
