use Rattle.mq_ruled.proofs.Rules.{merges}
use Rattle.mq_ruled.proofs.pipe.close.Goals as goal

pub absorb-requires-clause-rule : goal.absorb-requires-clause-rule
absorb-requires-clause-rule g c = merges _ _ _ _ c.requires.roles.0 c.requires.roles.1
