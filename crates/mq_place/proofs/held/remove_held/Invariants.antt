use Rattle.std.proofs.Common.{◌≡◌}
use Rattle.std.specs.Prelude.{vec_len, vec_capacity}
use Rattle.mq_queue.specs.Rows.{keep}
use Rattle.mq_place.specs.States.{is_other_row, on_rows}
use Rattle.mq_place.proofs.EveryLaws.{changed_first}
use Rattle.mq_place.proofs.held.remove_held.Given as goal

abbrev pub invariant-loop-at : goal.invariant-loop-at
invariant-loop-at g l = record {
  so_far : l.slots.items ≡ changed_first (on_rows (keep (is_other_row l.by))) l.at l.fn.slots.items;
  len : vec_len l.slots ≡ vec_len l.fn.slots;
  capacity : vec_capacity l.slots ≡ vec_capacity l.fn.slots;
}
