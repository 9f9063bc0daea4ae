use Rattle.std.proofs.Common.{sym, ap, subst, ◌∙◌}
use Rattle.std.specs.Prelude.{[]}
use Rattle.mq_calls.specs.Words.{Plain, apply}
use Rattle.mq_calls.specs.State.Change.{Serve}
use Rattle.mq_core.specs.Views.{PartsValue, plain_of}
use Rattle.mq_core.specs.Ties.{Tied}
use Rattle.mq_steer.specs.Turns.{IsDue}
use Rattle.mq_steer.proofs.TurnLaws.{served_view, tied_served}
use Rattle.mq_core.specs.Values.{CoreValue, bodies_in}
use Rattle.mq_steer.proofs.triggers.drop_trigger.Goals as goal

pub invariant_of-core : goal.invariant_of-core
invariant_of-core g c = subst Tied (sym c.serve.ensures) (tied_served c.args.from.now [] c.core.inside.parts c.core.invariant)

pub returns : goal.returns
returns g c =
    let v = c.core.view_is ∙ c.begin_call.ensures in
    let plain = ap (λ (w : CoreValue). w.plain) v in
    let due = subst (λ (p : Plain). IsDue c.args.from.now p) (sym plain) c.requires.due in
    let is = ap plain_of c.serve.ensures ∙ served_view c.args.from.now c.core.inside.parts due ∙ ap (apply (Serve c.args.from.now)) plain in
    let told = ap (λ (w : CoreValue). w.delta) v in
    let stopped = ap (λ (w : CoreValue). w.stopped) v in
    let faults = ap (λ (y : PartsValue). y.log.faults) c.serve.ensures ∙ ap (λ (w : CoreValue). w.faults) v in
    let log = ap (λ (y : PartsValue). bodies_in y.log) c.serve.ensures ∙ ap (λ (w : CoreValue). w.log) v in
    λ i. record { plain = is i; delta = told i; stopped = stopped i; faults = faults i; log = log i }
