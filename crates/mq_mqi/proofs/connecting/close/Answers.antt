use Rattle.std.proofs.Common.{ap, ◌∙◌, sym, subst}
use Rattle.std.specs.Prelude.{[], ◌∷◌, Ok}
use Rattle.mq_calls.specs.Words.{Plain, is_up, connection_at, Reason, Step}
use Rattle.mq_calls.specs.declared.answers.Answer.{Answer}
use Rattle.mq_calls.specs.Meeting.Wants.{Nowhere}
use Rattle.mq_calls.specs.State.Change.{CloseHandle}
use Rattle.mq_spec_manager.specs.Words.{close_up}
use Rattle.mq_calls.specs.declared.answers.Answer.TheVariants as answers
use Rattle.mq_core.specs.from_handles.Seats.{closed}
use Rattle.mq_core.specs.Views.{PartsValue, plain_of, frozen_of}
use Rattle.mq_core.specs.Calls.{HasHandle}
use Rattle.mq_core.proofs.SeatLaws.{tied_seated}
use Rattle.mq_core.proofs.MeetLaws.{some_is, if_some, done_at, quiet_done, mode_up, changed_view, closes_as}
use Rattle.mq_core.specs.Values.{CoreValue, manager_of, bodies_in, WritesLog}
use Rattle.mq_core.proofs.WriteLaws.{writes_at, writes_as}
use Rattle.mq_mqi.proofs.connecting.close.Goals as goal

pub returns-clause-meets : goal.returns-clause-meets
returns-clause-meets g c =
    let v = c.core.view_is ∙ c.begin_call.ensures in
    let x : PartsValue = c.core.inside.parts in
    let plain = ap (λ (w : CoreValue). w.plain) v in
    let live = some_is _ c.requires.there in
    let found = ap (λ (p : Plain). connection_at c.args.number p.connections) plain ∙ live.1 in
    let up = mode_up (frozen_of x) x.mode (ap (λ (p : Plain). is_up p.running) plain ∙ c.requires.up) in
    let has = if_some (HasHandle c.args.ho.now) _ live.0 live.1 c.requires.live in
    done_at Nowhere (manager_of c.args.core.now) _ c.args.number live.0 (close_up c.args.ho.now) (answers.Ok tt) _ live.1 (closes_as c.args.ho.now live.0 has)
    (quiet_done Nowhere (manager_of c.args.core.now) _ (answers.Ok tt) (CloseHandle live.0.number c.args.ho.now.number ∷ [])
    (ap plain_of c.close.ensures.parts ∙ changed_view x _ c.args.number live.0 (closed c.args.ho.now.number) up plain found)
    (ap (λ (w : CoreValue). w.delta) v) (ap (λ (w : CoreValue). w.stopped) v) (ap (λ (y : PartsValue). y.log.faults) c.close.ensures.parts ∙ ap (λ (w : CoreValue). w.faults) v))

pub invariant_of-core : goal.invariant_of-core
invariant_of-core g c = tied_seated c.core.inside.parts c.close.new.self c.close.ensures.seated.0 c.close.ensures.seated.1 c.core.invariant

pub returns-clause-told : goal.returns-clause-told
returns-clause-told g c =
    let v = c.core.view_is ∙ c.begin_call.ensures in
    let live = some_is _ c.requires.there in
    let has = if_some (HasHandle c.args.ho.now) _ live.0 live.1 c.requires.live in
    writes_at c.args.core.now _ c.args.number live.0 (close_up c.args.ho.now) _ live.1
    (writes_as c.args.core.now _ _ _ (Ok (answers.Ok tt)) (closes_as c.args.ho.now live.0 has)
    (ap (λ (y : PartsValue). bodies_in y.log) c.close.ensures.parts ∙ ap (λ (w : CoreValue). w.log) v, (tt, tt)))
