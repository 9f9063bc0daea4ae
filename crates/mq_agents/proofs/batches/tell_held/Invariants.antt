use Rattle.mq_agents.specs.Ends.{held_did}
use Rattle.mq_agents.proofs.TellLaws.{TellsLeft}
use Rattle.mq_agents.proofs.batches.tell_held.Given as goal

abbrev pub invariant-loop-ident : goal.invariant-loop-ident
invariant-loop-ident l = TellsLeft (held_did l.queue l.by) l.idents l.ident-index l.fn.effects l.effects
