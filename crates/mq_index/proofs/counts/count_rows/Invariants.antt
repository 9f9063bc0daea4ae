use Rattle.std.proofs.Common.{◌≡◌, take}
use Rattle.mq_queue.specs.Counts.{weight}
use Rattle.mq_index.specs.Slots.{total}
use Rattle.mq_index.proofs.counts.count_rows.Given as goal

abbrev pub invariant-loop-at : goal.invariant-loop-at
invariant-loop-at l = l.sum ≡ total (weight l.least) (take l.at l.slots)
