use Rattle.mq_ruled.proofs.Rules.{pushes, learns}
use Rattle.mq_ruled.proofs.ruled.RuledWire.push.Goals as goal

pub push_as-requires-clause-rule : goal.push_as-requires-clause-rule
push_as-requires-clause-rule g c = (pushes _ _ _ _ c.self.invariant.1 c.self.invariant.3 c.requires, learns _ _)
