use Rattle.mq_agents.proofs.FillLaws.{PutsLeft}
use Rattle.mq_agents.proofs.preparing.put_idents.Given as goal

abbrev pub invariant-loop-ident : goal.invariant-loop-ident
invariant-loop-ident l = PutsLeft l.idents l.ident-index l.fn.body l.body
