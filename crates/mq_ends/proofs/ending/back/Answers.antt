use Rattle.std.proofs.Common.{◌≡◌, [], ◌∷◌, sym, ap, subst, ◌∙◌}
use Rattle.mq_calls.specs.Words.{Do, Plain, connection_at, is_up, apply_all}
use Rattle.mq_calls.specs.declared.state.Connection.{Connection}
use Rattle.mq_spec_manager.specs.Units.{backout_part}
use Rattle.mq_log.specs.State.{LogState}
use Rattle.mq_core.specs.Views.{PartsValue, plain_of, frozen_of}
use Rattle.mq_core.specs.Ties.{Tied}
use Rattle.mq_core.proofs.MeetLaws.{some_is, if_some, some_of, mode_up}
use Rattle.mq_core.proofs.SeatLaws.{number_is}
use Rattle.mq_ends.specs.Ends.{HasRoom, ended_unit, backed}
use Rattle.mq_ends.proofs.EndLaws.{back_room, back_tied, backed_faults}
use Rattle.mq_ends.proofs.LateLaws.{backed_view}
use Rattle.mq_ends.proofs.CommitLaws.{back_done}
use Rattle.mq_core.specs.Values.{CoreValue, manager_of, bodies_in}
use Rattle.mq_core.proofs.WriteLaws.{writes_at}
use Rattle.mq_calls.specs.declared.answers.Answer.TheVariants as answers
use Rattle.mq_ends.proofs.ending.back.Goals as goal

pub back_out_unit-requires-clause-room : goal.back_out_unit-requires-clause-room
back_out_unit-requires-clause-room g c =
    let x : PartsValue = c.core.inside.parts in
    let plain = ap (λ (w : CoreValue). w.plain) (c.core.view_is ∙ c.begin_call.ensures) in
    let live = some_is _ c.requires.live in
    let found = ap (λ (p : Plain). connection_at c.args.number p.connections) plain ∙ live.1 in
    let up = mode_up (frozen_of x) x.mode (ap (λ (p : Plain). is_up p.running) plain ∙ c.requires.up) in
    some_of (λ (d : Connection). HasRoom d x) _ live.0 found (back_room c.args.number live.0 x found c.core.invariant up)

pub invariant_of-core : goal.invariant_of-core
invariant_of-core g c =
    let x : PartsValue = c.core.inside.parts in
    let plain = ap (λ (w : CoreValue). w.plain) (c.core.view_is ∙ c.begin_call.ensures) in
    let live = some_is _ c.requires.live in
    let found = ap (λ (p : Plain). connection_at c.args.number p.connections) plain ∙ live.1 in
    let parts = if_some (λ (d : Connection). c.back_out_unit.new.parts ≡ backed c.args.number d x) _ live.0 found c.back_out_unit.ensures.parts in
    subst Tied (sym parts) (back_tied c.args.number live.0 x found c.core.invariant)

pub returns-clause-meets : goal.returns-clause-meets
returns-clause-meets g c =
    let v = c.core.view_is ∙ c.begin_call.ensures in
    let x : PartsValue = c.core.inside.parts in
    let plain = ap (λ (w : CoreValue). w.plain) v in
    let live = some_is _ c.requires.live in
    let found = ap (λ (p : Plain). connection_at c.args.number p.connections) plain ∙ live.1 in
    let up = mode_up (frozen_of x) x.mode (ap (λ (p : Plain). is_up p.running) plain ∙ c.requires.up) in
    let parts = if_some (λ (d : Connection). c.back_out_unit.new.parts ≡ backed c.args.number d x) _ live.0 found c.back_out_unit.ensures.parts in
    let told = if_some (λ (d : Connection). c.back_out_unit.result.dids ≡ (backout_part d).delta) _ live.0 found c.back_out_unit.ensures.told in
    back_done (manager_of c.args.core.now) _ c.args.number live.0 live.1
    (ap plain_of parts ∙ backed_view c.args.number live.0 x up (number_is c.args.number x.desk.live live.0 found) ∙ ap (apply_all (backout_part live.0).changes) plain)
    told (ap (λ (w : CoreValue). w.stopped) v)
    (ap (λ (z : PartsValue). z.log.faults) parts ∙ ap (λ (l : LogState). l.faults) (backed_faults live.0.unit (ended_unit c.args.number live.0 x)) ∙ ap (λ (w : CoreValue). w.faults) v)

pub returns-clause-told : goal.returns-clause-told
returns-clause-told g c =
    let v = c.core.view_is ∙ c.begin_call.ensures in
    let x : PartsValue = c.core.inside.parts in
    let live = some_is _ c.requires.live in
    let found = ap (λ (w : CoreValue). connection_at c.args.number w.plain.connections) v ∙ live.1 in
    let parts = if_some (λ (d : Connection). c.back_out_unit.new.parts ≡ backed c.args.number d x) _ live.0 found c.back_out_unit.ensures.parts in
    writes_at c.args.core.now _ c.args.number live.0 (λ d. Do (answers.Ok tt) (backout_part d ∷ [])) _ live.1
    (ap (λ (z : PartsValue). bodies_in z.log) parts ∙ ap bodies_in (backed_faults live.0.unit (ended_unit c.args.number live.0 x)) ∙ ap (λ (w : CoreValue). w.log) v, (tt, tt))
