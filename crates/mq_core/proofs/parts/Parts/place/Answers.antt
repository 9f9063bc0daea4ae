use Rattle.std.proofs.Common.{◌+◌, ◌<◌, sym, ap, subst, ◌∙◌}
use Rattle.std.specs.Prelude.{List}
use Rattle.mq_place.specs.States.{QueueState, QueueStates, change_state, state_or, arrived}
use Rattle.mq_core.specs.Views.{PartsValue}
use Rattle.mq_core.proofs.PlaceLaws.{due_next}
use Rattle.mq_core.proofs.parts.Parts.place.Goals as goal

pub try_trigger-requires : goal.try_trigger-requires
try_trigger-requires g c =
    let is = ap (λ (q : QueueStates). q.states) c.place.ensures ∙ ap (λ (x : PartsValue). change_state c.args.queue.now (arrived c.args.message) x.queues.states) c.self.view_is in
    record { due = subst (λ (qs : List QueueState). (state_or c.args.queue.now qs).queue.due + 1 < 18446744073709551616) (sym is) (due_next c.args.queue.now c.args.message c.args.self.now c.requires) }
