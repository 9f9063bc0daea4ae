use Rattle.std.proofs.Common.{◌≡◌, drop}
use Rattle.mq_steer.specs.Rests.{batches_released}
use Rattle.mq_steer.proofs.stopping.release_batches.Given as goal

abbrev pub invariant-loop-batch : goal.invariant-loop-batch
invariant-loop-batch l = let q = l.queues in (record q { states = batches_released (drop l.batch-index l.batches) q.states } ≡ record l.fn.queues { states = batches_released l.batches l.fn.queues.states })
