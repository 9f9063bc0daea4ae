use Rattle.std.proofs.Common.{sym, subst}
use Rattle.mq_calls.specs.Words.{Reason, Step, Meets}
use Rattle.mq_calls.specs.declared.answers.Answer.{Answer}
use Rattle.mq_calls.specs.declared.answers.Sent.{Sent}
use Rattle.mq_core.proofs.MeetLaws.{some_is}
use Rattle.mq_mqi.proofs.LetterLaws.{letter_now, letter_unit}
use Rattle.mq_core.specs.Values.{manager_of, WritesLog}
use Rattle.mq_mqi.proofs.putting.put.Goals as goal

pub returns-then-sync-clause-meets : goal.returns-then-sync-clause-meets
returns-then-sync-clause-meets g c = subst (λ (s : Step Reason (Answer Sent)). Meets (manager_of c.args.core.now) s c.put_in_unit.result (manager_of c.put_in_unit.new.core))
    (sym (letter_unit c.args.number c.args.letter.now c.args.high c.args.sync c.args.body.now c.args.core.now.plain c.in-Ok.message c.if-sync.true c.in-Ok.ensures)) c.put_in_unit.ensures.meets

pub returns-then-sync-clause-told : goal.returns-then-sync-clause-told
returns-then-sync-clause-told g c = subst (λ (s : Step Reason (Answer Sent)). WritesLog c.args.core.now s c.put_in_unit.result c.put_in_unit.new.core)
    (sym (letter_unit c.args.number c.args.letter.now c.args.high c.args.sync c.args.body.now c.args.core.now.plain c.in-Ok.message c.if-sync.true c.in-Ok.ensures)) c.put_in_unit.ensures.told

pub returns-clause-meets : goal.returns-clause-meets
returns-clause-meets g c =
    let live = some_is _ c.requires.live in
    subst (λ (s : Step Reason (Answer Sent)). Meets (manager_of c.args.core.now) s c.put_free.result (manager_of c.put_free.new.core))
    (sym (letter_now c.args.number c.args.letter.now c.args.high c.args.sync c.args.body.now c.args.core.now.plain live.0 c.in-Ok.message live.1 c.if-sync.false c.in-Ok.ensures)) c.put_free.ensures.meets

pub returns-clause-told : goal.returns-clause-told
returns-clause-told g c =
    let live = some_is _ c.requires.live in
    subst (λ (s : Step Reason (Answer Sent)). WritesLog c.args.core.now s c.put_free.result c.put_free.new.core)
    (sym (letter_now c.args.number c.args.letter.now c.args.high c.args.sync c.args.body.now c.args.core.now.plain live.0 c.in-Ok.message live.1 c.if-sync.false c.in-Ok.ensures)) c.put_free.ensures.told
