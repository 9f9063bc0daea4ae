use Rattle.std.proofs.Common.{◌∙◌, false, ap}
use Rattle.std.specs.Prelude.{[], ◌∷◌}
use Rattle.mq_calls.specs.Words.{Plain, is_up}
use Rattle.mq_calls.specs.State.Change.{SetBound}
use Rattle.mq_calls.specs.Meeting.Wants.{Anywhere, Nowhere}
use Rattle.mq_spec_manager.specs.Words.{Never}
use Rattle.mq_core.specs.Views.{PartsValue, frozen_of}
use Rattle.mq_core.specs.Values.{CoreValue, bodies_in, manager_of}
use Rattle.mq_core.proofs.MeetLaws.{mode_up}
use Rattle.mq_agents.proofs.BindLaws.{unbound_tied, unbound_view, without_bound_of}
use Rattle.mq_agents.proofs.EndLaws.{quiet_as}
use Rattle.mq_agents.proofs.seizing.unbind.Goals as goal

pub invariant_of-core : goal.invariant_of-core
invariant_of-core g c = unbound_tied c.args.channel.now c.core.inside.parts c.drop_bond.new.parts c.drop_bond.ensures c.core.invariant

pub returns-clause-meets : goal.returns-clause-meets
returns-clause-meets g c =
    let v = c.core.view_is ∙ c.begin_call.ensures in
    let plain = ap (λ (w : CoreValue). w.plain) v in
    let x : PartsValue = c.core.inside.parts in
    let up = mode_up (frozen_of x) x.mode (ap (λ (p : Plain). is_up p.running) plain ∙ c.requires.up) in
    let nothing : Unit {0} = tt in
    quiet_as Never Anywhere (manager_of c.args.core.now) _ nothing (SetBound c.args.channel.now false ∷ [])
    (unbound_view c.args.channel.now x c.drop_bond.new.parts up c.drop_bond.ensures ∙ ap (without_bound_of c.args.channel.now) plain) (ap (λ (w : CoreValue). w.delta) v) (ap (λ (w : CoreValue). w.stopped) v)
    (ap (λ (p : PartsValue). p.log.faults) c.drop_bond.ensures ∙ ap (λ (w : CoreValue). w.faults) v)

pub returns-clause-room : goal.returns-clause-room
returns-clause-room g c =
    let v = c.core.view_is ∙ c.begin_call.ensures in
    let plain = ap (λ (w : CoreValue). w.plain) v in
    let x : PartsValue = c.core.inside.parts in
    let up = mode_up (frozen_of x) x.mode (ap (λ (p : Plain). is_up p.running) plain ∙ c.requires.up) in
    let nothing : Unit {0} = tt in
    quiet_as Never Nowhere (manager_of c.args.core.now) _ nothing (SetBound c.args.channel.now false ∷ [])
    (unbound_view c.args.channel.now x c.drop_bond.new.parts up c.drop_bond.ensures ∙ ap (without_bound_of c.args.channel.now) plain) (ap (λ (w : CoreValue). w.delta) v) (ap (λ (w : CoreValue). w.stopped) v)
    (ap (λ (p : PartsValue). p.log.faults) c.drop_bond.ensures ∙ ap (λ (w : CoreValue). w.faults) v)

pub returns-clause-told : goal.returns-clause-told
returns-clause-told g c =
    let v = c.core.view_is ∙ c.begin_call.ensures in
    (ap (λ (p : PartsValue). bodies_in p.log) c.drop_bond.ensures ∙ ap (λ (w : CoreValue). w.log) v, (tt, tt))
