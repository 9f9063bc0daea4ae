use Rattle.mq_ruled.proofs.Rules.{pops, learns}
use Rattle.mq_ruled.proofs.ruled.RuledWire.fetch.Goals as goal

pub pop_as-requires-clause-rule : goal.pop_as-requires-clause-rule
pop_as-requires-clause-rule g c = (pops _ _ c.self.invariant.4, learns _ _)
