use Rattle.mq_get.proofs.LoopLaws.{TellsLeft}
use Rattle.mq_get.proofs.leaving.tell_removed.Given as goal

abbrev pub invariant-loop-ident : goal.invariant-loop-ident
invariant-loop-ident l = TellsLeft l.queue l.why l.idents l.ident-index l.fn.effects l.effects
