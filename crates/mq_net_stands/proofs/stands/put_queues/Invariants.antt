use Rattle.std.proofs.Common.{◌≡◌, ◌++◌, take}
use Rattle.std.specs.List.{flat_map}
use Rattle.mq_net_stands.specs.Stands.{queue_text}
use Rattle.mq_net_stands.proofs.stands.put_queues.Given as goal

abbrev pub invariant-loop-queue : goal.invariant-loop-queue
invariant-loop-queue l = l.out ≡ l.fn.out ++ flat_map queue_text (take l.queue-index l.queues)
