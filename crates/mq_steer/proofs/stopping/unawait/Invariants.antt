use Rattle.std.proofs.Common.{◌≡◌}
use Rattle.mq_place.specs.States.{change_state}
use Rattle.mq_steer.specs.Rests.{lessened}
use Rattle.mq_steer.proofs.stopping.unawait.Given as goal

abbrev pub invariant-loop-waiting : goal.invariant-loop-waiting
invariant-loop-waiting l = l.queues ≡ record l.fn.queues { states = change_state l.name (lessened l.waiting) l.fn.queues.states }
