use Rattle.std.proofs.Common.{◌≡◌}
use Rattle.std.specs.Prelude.{vec_len, vec_capacity}
use Rattle.mq_calls.specs.Changes.{forgotten}
use Rattle.mq_place.specs.States.{on_queue}
use Rattle.mq_place.proofs.EveryLaws.{changed_first}
use Rattle.mq_place.proofs.slots.forget.Given as goal

abbrev pub invariant-loop-at : goal.invariant-loop-at
invariant-loop-at g l = record {
  so_far : l.slots.items ≡ changed_first (on_queue forgotten) l.at l.fn.slots.items;
  len : vec_len l.slots ≡ vec_len l.fn.slots;
  capacity : vec_capacity l.slots ≡ vec_capacity l.fn.slots;
}
