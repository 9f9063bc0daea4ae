use Rattle.std.proofs.Common.{◌≡◌, ◌++◌, take, drop}
use Rattle.std.specs.Prelude.{map}
use Rattle.mq_queue.specs.declared.row.Row.{Row}
use Rattle.mq_queue.specs.Rows.{is_persistent}
use Rattle.mq_net_rows.specs.Stored.{kept_slot}
use Rattle.mq_net_rows.proofs.store.clear_lost_from.Given as goal

abbrev pub invariant-loop-at : goal.invariant-loop-at
invariant-loop-at l = l.store ≡ map (kept_slot (λ (row : Row). is_persistent row.message)) (take l.at l.fn.store) ++ drop l.at l.fn.store
