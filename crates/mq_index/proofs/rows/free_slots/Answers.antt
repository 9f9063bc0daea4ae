use Rattle.std.proofs.Common.{ap, arith, length, refl, ◌∙◌}
use Rattle.std.specs.Prelude.{List, Option}
use Rattle.mq_queue.specs.declared.row.Row.{Row}
use Rattle.mq_index.specs.Slots.{freed_slot}
use Rattle.mq_index.proofs.RowLaws.{freed_end, map_long, map_next, map_none}
use Rattle.mq_index.proofs.rows.free_slots.Goals as goal

pub loop-at-init : goal.loop-at-init
loop-at-init c = record { so_far = map_none freed_slot c.args.store.now.slots; arrivals = refl; room = refl }

pub free_slot-requires : goal.free_slot-requires
free_slot-requires c =
    let long = ap (λ (ss : List (Option Row)). length ss) c.loop-at.invariant.so_far ∙ map_long freed_slot c.loop-at.at c.args.store.now.slots in
    record { there = omega (arith, c.loop-at-test.true, c.slots-at-end.ensures.slots, long) }

pub loop-at-preserved : goal.loop-at-preserved
loop-at-preserved c = record {
  so_far = map_next freed_slot c.loop-at.at c.args.store.now.slots c.loop-at.store.slots c.free_slot.new.store.slots (omega (arith, c.loop-at-test.true, c.slots-at-end.ensures.slots)) c.loop-at.invariant.so_far c.free_slot.ensures.freed;
  arrivals = c.free_slot.ensures.arrivals ∙ c.loop-at.invariant.arrivals;
  room = c.free_slot.ensures.room ∙ c.loop-at.invariant.room;
}

pub returns-clause-rows : goal.returns-clause-rows
returns-clause-rows c = freed_end c.loop-at.at c.args.store.now.slots c.loop-at.store.slots (omega (arith, c.loop-at-test.false, c.loop-at.auto.at-end, c.slots-at-end.ensures.slots)) c.loop-at.invariant.so_far
