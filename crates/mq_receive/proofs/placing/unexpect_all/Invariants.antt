use Rattle.std.proofs.Common.{◌≡◌, drop}
use Rattle.mq_receive.specs.Placed.{unexpected_in}
use Rattle.mq_receive.proofs.placing.unexpect_all.Given as goal

abbrev pub invariant-loop-arrival : goal.invariant-loop-arrival
invariant-loop-arrival l = unexpected_in (drop l.arrival-index l.landed) l.queues ≡ unexpected_in l.landed l.fn.queues
