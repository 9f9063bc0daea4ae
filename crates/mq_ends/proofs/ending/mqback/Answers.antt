use Rattle.std.proofs.Common.{ap, subst}
use Rattle.mq_calls.specs.Words.{Plain, Reason, Step, MeetsInRoom}
use Rattle.mq_calls.specs.declared.answers.Answer.{Answer}
use Rattle.mq_core.specs.Calls.{CanGo}
use Rattle.mq_ends.proofs.CommitLaws.{back_is}
use Rattle.mq_core.specs.Values.{CoreValue, manager_of, WritesLog}
use Rattle.mq_ends.proofs.ending.mqback.Goals as goal

pub returns-in-Ok-clause-meets : goal.returns-in-Ok-clause-meets
returns-in-Ok-clause-meets g c =
    let can = subst (λ (p : Plain). CanGo c.args.hc p) (ap (λ (w : CoreValue). w.plain) c.core.view_is) c.in-Ok.ensures in
    subst (λ (s : Step Reason (Answer (Unit {0}))). MeetsInRoom (manager_of c.args.core.now) s c.back.result (manager_of c.back.new.core)) (back_is c.args.hc c.args.core.now.plain can) c.back.ensures.meets

pub returns-in-Ok-clause-told : goal.returns-in-Ok-clause-told
returns-in-Ok-clause-told g c =
    let can = subst (λ (p : Plain). CanGo c.args.hc p) (ap (λ (w : CoreValue). w.plain) c.core.view_is) c.in-Ok.ensures in
    subst (λ (s : Step Reason (Answer (Unit {0}))). WritesLog c.args.core.now s c.back.result c.back.new.core) (back_is c.args.hc c.args.core.now.plain can) c.back.ensures.told
