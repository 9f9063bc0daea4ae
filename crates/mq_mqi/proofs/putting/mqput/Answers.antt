use Rattle.std.proofs.Common.{sym, ap, subst}
use Rattle.std.specs.Prelude.{Bool}
use Rattle.mq_calls.specs.Words.{Plain, Reason, Step, Meets}
use Rattle.mq_calls.specs.declared.answers.Answer.{Answer}
use Rattle.mq_calls.specs.declared.answers.Sent.{Sent}
use Rattle.mq_spec_manager.specs.Words.{mqput, is_high}
use Rattle.mq_mqi.specs.Puts.{CanPut, letter_at}
use Rattle.mq_core.specs.Values.{CoreValue, manager_of, WritesLog}
use Rattle.mq_mqi.proofs.putting.mqput.Goals as goal

pub put-requires-clause-can : goal.put-requires-clause-can
put-requires-clause-can g c =
    let can = subst (λ (p : Plain). CanPut (mqput c.args.hc c.args.ho c.args.md.now c.args.body.now c.args.sync p) c.args.hc.number c.in-Ok.letter (is_high c.args.md.now.priority) c.args.sync c.args.body.now p) (ap (λ (w : CoreValue). w.plain) c.core.view_is) c.in-Ok.ensures in
    can.can

pub returns-in-Ok-clause-meets : goal.returns-in-Ok-clause-meets
returns-in-Ok-clause-meets g c =
    let can = subst (λ (p : Plain). CanPut (mqput c.args.hc c.args.ho c.args.md.now c.args.body.now c.args.sync p) c.args.hc.number c.in-Ok.letter (is_high c.args.md.now.priority) c.args.sync c.args.body.now p) (ap (λ (w : CoreValue). w.plain) c.core.view_is) c.in-Ok.ensures in
    subst (λ (s : Step Reason (Answer Sent)). Meets (manager_of c.args.core.now) s c.put.result (manager_of c.put.new.core)) (sym can.is)
    (subst (λ (h : Bool). Meets (manager_of c.args.core.now) (letter_at c.args.hc.number c.in-Ok.letter h c.args.sync c.args.body.now c.args.core.now.plain) c.put.result (manager_of c.put.new.core)) c.is_high.ensures c.put.ensures.meets)

pub returns-in-Ok-clause-told : goal.returns-in-Ok-clause-told
returns-in-Ok-clause-told g c =
    let can = subst (λ (p : Plain). CanPut (mqput c.args.hc c.args.ho c.args.md.now c.args.body.now c.args.sync p) c.args.hc.number c.in-Ok.letter (is_high c.args.md.now.priority) c.args.sync c.args.body.now p) (ap (λ (w : CoreValue). w.plain) c.core.view_is) c.in-Ok.ensures in
    subst (λ (s : Step Reason (Answer Sent)). WritesLog c.args.core.now s c.put.result c.put.new.core) (sym can.is)
    (subst (λ (h : Bool). WritesLog c.args.core.now (letter_at c.args.hc.number c.in-Ok.letter h c.args.sync c.args.body.now c.args.core.now.plain) c.put.result c.put.new.core) c.is_high.ensures c.put.ensures.told)
