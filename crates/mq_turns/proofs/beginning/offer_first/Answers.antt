use Rattle.std.proofs.Common.{rules}
use Rattle.mq_turns.proofs.BeginLaws.{first_offered, first_refused}
use Rattle.mq_turns.proofs.beginning.offer_first.Goals as goal

pub returns-in-Ok-None-clause-told : goal.returns-in-Ok-None-clause-told
returns-in-Ok-None-clause-told g c = first_refused _ _ _ _ c.args.frame _ c.in-Ok-None.field-0-is c.in-Ok-None.ensures.told

pub returns-in-Ok-Some-clause-told : goal.returns-in-Ok-Some-clause-told
returns-in-Ok-Some-clause-told g c = first_offered _ _ _ _ c.args.frame c.in-Ok-Some.extras _ c.in-Ok-Some.field-0-is c.in-Ok-Some.ensures.told (search rules)
