use Rattle.std.proofs.Common.{take}
use Rattle.mq_queue.specs.Counts.{AreCounts}
use Rattle.mq_queue.proofs.counts.counts_of.Given as goal

abbrev pub invariant-loop-at : goal.invariant-loop-at
invariant-loop-at l = AreCounts l.frees (take l.at l.rows.items)
