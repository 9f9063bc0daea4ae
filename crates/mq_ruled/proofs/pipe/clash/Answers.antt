use Rattle.mq_ruled.proofs.Rules.{clashes, never}
use Rattle.mq_ruled.proofs.pipe.clash.Goals as goal

pub absorb-requires-clause-rule : goal.absorb-requires-clause-rule
absorb-requires-clause-rule c = clashes _ _ _ _ _ _ c.requires.push.0 c.requires.push.1

pub returns : goal.returns
returns c = never _ _ c.absorb.ensures.rule c.learn_as.ensures.rule
