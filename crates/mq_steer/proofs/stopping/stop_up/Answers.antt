use Rattle.std.proofs.Common.{sym, ap, subst, ◌∙◌}
use Rattle.std.specs.Prelude.{None}
use Rattle.mq_calls.specs.Words.{Plain, Down, is_up}
use Rattle.mq_spec_manager.specs.Stops.{at_rest}
use Rattle.mq_core.specs.Views.{PartsValue, plain_of, frozen_of}
use Rattle.mq_core.specs.Ties.{Tied}
use Rattle.mq_core.proofs.MeetLaws.{mode_up}
use Rattle.mq_steer.specs.Rests.{AreHeld}
use Rattle.mq_steer.proofs.RestLaws.{rested_view, tied_rested, stop_is_up}
use Rattle.mq_core.specs.Values.{CoreValue, bodies_in}
use Rattle.mq_steer.proofs.stopping.stop_up.Goals as goal

pub invariant_of-core : goal.invariant_of-core
invariant_of-core g c = subst Tied (sym c.rest.ensures) (tied_rested c.core.inside.parts c.core.invariant)

pub returns : goal.returns
returns g c =
    let v = c.core.view_is ∙ c.begin_call.ensures in
    let plain = ap (λ (w : CoreValue). w.plain) v in
    let held = subst AreHeld (sym plain) c.requires.held in
    stop_is_up c.args.core.now _ c.requires.up
    (ap plain_of c.rest.ensures ∙ rested_view c.core.inside.parts (mode_up (frozen_of c.core.inside.parts) c.core.inside.parts.mode (ap (λ (p : Plain). is_up p.running) plain ∙ c.requires.up)) held ∙ ap (λ (p : Plain). record (at_rest p) { running = Down None 0 }) plain)
    (ap (λ (w : CoreValue). w.delta) v) (ap (λ (w : CoreValue). w.stopped) v) (ap (λ (y : PartsValue). y.log.faults) c.rest.ensures ∙ ap (λ (w : CoreValue). w.faults) v)
    (ap (λ (y : PartsValue). bodies_in y.log) c.rest.ensures ∙ ap (λ (w : CoreValue). w.log) v)
