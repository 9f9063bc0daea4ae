use Rattle.std.proofs.Common.{◌≡◌, take}
use Rattle.mq_receive.specs.Placed.{expected_all}
use Rattle.mq_receive.proofs.rooms.expect_all.Given as goal

abbrev pub invariant-loop-at : goal.invariant-loop-at
invariant-loop-at l = l.queues ≡ record l.fn.queues { states = expected_all (take l.at l.landed) l.fn.queues.states }
