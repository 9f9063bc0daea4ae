-- What is kept of one queue, whatever its rows do.
use Rattle.std.proofs.Common.{◌≡◌, ℕ, ◌+◌, ◌-◌, ◌<◌, ◌≤◌, ◌^◌, List, length, ap, arith}
use Rattle.std.specs.Prelude.{Bool}
use Rattle.mq_message.specs.declared.message.Message.{Message}
use Rattle.mq_queue.specs.declared.row.Row.{Row}
use Rattle.mq_queue.specs.Rows.{insert_row, keep, retag}
use Rattle.mq_queue.specs.Queues.{Lacks, IsQueue, row_of}
use Rattle.mq_queue.proofs.QueueLaws.{KeepsPlaces, queue_placed, queue_kept, queue_retagged, length_kept, length_retagged, length_placed}

-- rows in order, with room for the puts that wait
abbrev pub IsLocal : List Row → ℕ → ℕ → ℕ → Type 0
IsLocal rows arrivals pending room = IsQueue rows arrivals × (pending ≤ room) × (length rows + pending < 2 ^ 64)

module _ (rows new : List Row) (n m pending room more : ℕ) (local : IsLocal rows n pending room) where
  pub local_retagged : (change : Row → Row) → KeepsPlaces change → new ≡ retag change rows → m ≡ n → more ≡ room → IsLocal new m pending more
  local_retagged change keeps are same stays =
      (rw (are, same) (queue_retagged change keeps rows n local.0), omega (arith, local.1, stays), omega (arith, local.2, ap length are, length_retagged change rows))

  pub local_kept : (test : Row → Bool) → new ≡ keep test rows → m ≡ n → room ≤ more → IsLocal new m pending more
  local_kept test are same stays =
      (rw (are, same) (queue_kept test rows n local.0), omega (arith, local.1, stays), omega (arith, local.2, ap length are, length_kept test rows))

  pub local_placed : (by_priority : Bool) (message : Message) → Lacks message.ident rows → 0 < pending → new ≡ insert_row (row_of by_priority message (n + 1)) rows → m ≡ n + 1 → more ≡ room - 1 → IsLocal new m (pending - 1) more
  local_placed by_priority message lacks waits are same stays = (
    rw (are, same) (queue_placed by_priority message rows n lacks local.0),
    omega (arith, local.1, stays, waits),
    omega (arith, local.2, waits, ap length are, length_placed (row_of by_priority message (n + 1)) rows),
  )
