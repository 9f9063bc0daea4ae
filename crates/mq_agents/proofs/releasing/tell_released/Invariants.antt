use Rattle.mq_agents.specs.Releasing.{released_did}
use Rattle.mq_agents.proofs.TellLaws.{TellsLeft}
use Rattle.mq_agents.proofs.releasing.tell_released.Given as goal

abbrev pub invariant-loop-ident : goal.invariant-loop-ident
invariant-loop-ident l = TellsLeft (released_did l.queue) l.idents l.ident-index l.fn.effects l.effects
