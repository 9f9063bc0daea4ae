use Rattle.std.proofs.Common.{subst}
use Rattle.mq_place.specs.States.{QueueStates}
use Rattle.mq_place.specs.Due.{IsDueAt, is_noted}
use Rattle.mq_place.proofs.DueLaws.{due_where}
use Rattle.mq_place.proofs.queues.Queues.due_at.Goals as goal

pub returns : goal.returns
returns g c = subst (λ (v : QueueStates). IsDueAt c.which.result v.states) c.self.view_is (due_where c.which.result (is_noted c.self.inside.due) c.self.inside.named.states c.which.ensures c.self.invariant.1)
