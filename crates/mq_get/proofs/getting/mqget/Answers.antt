use Rattle.std.proofs.Common.{sym, ap, subst}
use Rattle.std.specs.Prelude.{Err}
use Rattle.mq_calls.specs.Words.{Reason, Plain, Step}
use Rattle.mq_calls.specs.declared.answers.GetAnswer.{GetAnswer}
use Rattle.mq_spec_manager.specs.Words.{mqget}
use Rattle.mq_core.specs.Values.{CoreValue, MeetsTold}
use Rattle.mq_get.specs.Gets.{CanGet, Gets}
use Rattle.mq_get.proofs.WayLaws.{refused_meets}
use Rattle.mq_get.proofs.getting.mqget.Goals as goal

pub get_now-requires-clause-up : goal.get_now-requires-clause-up
get_now-requires-clause-up g c =
    let can = subst (λ (p : Plain). CanGet (mqget c.args.hc c.args.ho c.args.get.now c.args.until p) c.args.hc.number c.args.get.now c.args.until p c.in-Ok.aim) (ap (λ (w : CoreValue). w.plain) c.core.view_is) (c.in-Ok.ensures c.args.until) in
    can.up

pub get_now-requires-clause-live : goal.get_now-requires-clause-live
get_now-requires-clause-live g c =
    let can = subst (λ (p : Plain). CanGet (mqget c.args.hc c.args.ho c.args.get.now c.args.until p) c.args.hc.number c.args.get.now c.args.until p c.in-Ok.aim) (ap (λ (w : CoreValue). w.plain) c.core.view_is) (c.in-Ok.ensures c.args.until) in
    can.live

pub get_now-requires-clause-short : goal.get_now-requires-clause-short
get_now-requires-clause-short g c =
    let can = subst (λ (p : Plain). CanGet (mqget c.args.hc c.args.ho c.args.get.now c.args.until p) c.args.hc.number c.args.get.now c.args.until p c.in-Ok.aim) (ap (λ (w : CoreValue). w.plain) c.core.view_is) (c.in-Ok.ensures c.args.until) in
    can.short

pub returns-in-Ok-clause-meets : goal.returns-in-Ok-clause-meets
returns-in-Ok-clause-meets g c =
    let can = subst (λ (p : Plain). CanGet (mqget c.args.hc c.args.ho c.args.get.now c.args.until p) c.args.hc.number c.args.get.now c.args.until p c.in-Ok.aim) (ap (λ (w : CoreValue). w.plain) c.core.view_is) (c.in-Ok.ensures c.args.until) in
    let both = subst (λ (s : Step Reason GetAnswer). MeetsTold c.args.core.now s c.get_now.result c.get_now.new.core) (sym can.step) c.get_now.ensures in
    both.meets

pub returns-in-Err-clause-meets : goal.returns-in-Err-clause-meets
returns-in-Err-clause-meets g c =
    let refused = subst (λ (p : Plain). Gets (mqget c.args.hc c.args.ho c.args.get.now c.args.until p) c.args.hc.number c.args.get.now c.args.until p (Err c.in-Err.reason)) (ap (λ (w : CoreValue). w.plain) c.core.view_is) (c.in-Err.ensures c.args.until) in
    (refused_meets (mqget c.args.hc c.args.ho c.args.get.now c.args.until c.args.core.now.plain) c.in-Err.reason c.args.core.now _ refused (c.begin_call.ensures)).meets

pub returns-in-Ok-clause-told : goal.returns-in-Ok-clause-told
returns-in-Ok-clause-told g c =
    let can = subst (λ (p : Plain). CanGet (mqget c.args.hc c.args.ho c.args.get.now c.args.until p) c.args.hc.number c.args.get.now c.args.until p c.in-Ok.aim) (ap (λ (w : CoreValue). w.plain) c.core.view_is) (c.in-Ok.ensures c.args.until) in
    let both = subst (λ (s : Step Reason GetAnswer). MeetsTold c.args.core.now s c.get_now.result c.get_now.new.core) (sym can.step) c.get_now.ensures in
    both.told

pub returns-in-Err-clause-told : goal.returns-in-Err-clause-told
returns-in-Err-clause-told g c =
    let refused = subst (λ (p : Plain). Gets (mqget c.args.hc c.args.ho c.args.get.now c.args.until p) c.args.hc.number c.args.get.now c.args.until p (Err c.in-Err.reason)) (ap (λ (w : CoreValue). w.plain) c.core.view_is) (c.in-Err.ensures c.args.until) in
    (refused_meets (mqget c.args.hc c.args.ho c.args.get.now c.args.until c.args.core.now.plain) c.in-Err.reason c.args.core.now _ refused (c.begin_call.ensures)).told
