use Rattle.std.proofs.Common.{◌∙◌, true, ap}
use Rattle.std.specs.Prelude.{[], ◌∷◌}
use Rattle.mq_calls.specs.Words.{Plain, is_up}
use Rattle.mq_calls.specs.State.Change.{SetBound}
use Rattle.mq_calls.specs.Meeting.Wants.{Anywhere, Nowhere}
use Rattle.mq_spec_manager.specs.Words.{Never}
use Rattle.mq_core.specs.Views.{PartsValue, frozen_of}
use Rattle.mq_core.specs.Values.{CoreValue, bodies_in, manager_of}
use Rattle.mq_core.proofs.MeetLaws.{mode_up}
use Rattle.mq_agents.proofs.BindLaws.{bound_tied, bound_view, is_seated, with_bound_of}
use Rattle.mq_agents.proofs.EndLaws.{quiet_as}
use Rattle.mq_agents.proofs.seizing.bind.Goals as goal

pub put_bond-requires : goal.put_bond-requires
put_bond-requires g c =
    let v = c.core.view_is ∙ c.begin_call.ensures in
    let x : PartsValue = c.core.inside.parts in
    let up = mode_up (frozen_of x) x.mode (ap (λ (w : CoreValue). is_up w.plain.running) v ∙ c.requires.up) in
    record { seated = is_seated c.args.channel.now x.ends x.log.spare (c.core.invariant.up up).ends }

pub invariant_of-core : goal.invariant_of-core
invariant_of-core g c = bound_tied c.args.channel.now c.core.inside.parts c.put_bond.new.parts c.put_bond.ensures c.core.invariant

pub returns-clause-meets : goal.returns-clause-meets
returns-clause-meets g c =
    let v = c.core.view_is ∙ c.begin_call.ensures in
    let plain = ap (λ (w : CoreValue). w.plain) v in
    let x : PartsValue = c.core.inside.parts in
    let y : PartsValue = c.put_bond.new.parts in
    let up = mode_up (frozen_of x) x.mode (ap (λ (p : Plain). is_up p.running) plain ∙ c.requires.up) in
    let b = c.put_bond.ensures in
    let nothing : Unit {0} = tt in
    quiet_as Never Anywhere (manager_of c.args.core.now) _ nothing (SetBound c.args.channel.now true ∷ [])
    (bound_view c.args.channel.now x y up b ∙ ap (with_bound_of c.args.channel.now) plain) (ap (λ (w : CoreValue). w.delta) v) (ap (λ (w : CoreValue). w.stopped) v)
    (ap (λ (p : PartsValue). p.log.faults) b.same ∙ ap (λ (w : CoreValue). w.faults) v)

pub returns-clause-room : goal.returns-clause-room
returns-clause-room g c =
    let v = c.core.view_is ∙ c.begin_call.ensures in
    let plain = ap (λ (w : CoreValue). w.plain) v in
    let x : PartsValue = c.core.inside.parts in
    let y : PartsValue = c.put_bond.new.parts in
    let up = mode_up (frozen_of x) x.mode (ap (λ (p : Plain). is_up p.running) plain ∙ c.requires.up) in
    let b = c.put_bond.ensures in
    let nothing : Unit {0} = tt in
    quiet_as Never Nowhere (manager_of c.args.core.now) _ nothing (SetBound c.args.channel.now true ∷ [])
    (bound_view c.args.channel.now x y up b ∙ ap (with_bound_of c.args.channel.now) plain) (ap (λ (w : CoreValue). w.delta) v) (ap (λ (w : CoreValue). w.stopped) v)
    (ap (λ (p : PartsValue). p.log.faults) b.same ∙ ap (λ (w : CoreValue). w.faults) v)

pub returns-clause-told : goal.returns-clause-told
returns-clause-told g c =
    let v = c.core.view_is ∙ c.begin_call.ensures in
    (ap (λ (p : PartsValue). bodies_in p.log) c.put_bond.ensures.same ∙ ap (λ (w : CoreValue). w.log) v, (tt, tt))
