use Rattle.mq_get.proofs.LoopLaws.{PutsLeft}
use Rattle.mq_get.proofs.leaving.put_removes.Given as goal

abbrev pub invariant-loop-remove : goal.invariant-loop-remove
invariant-loop-remove l = PutsLeft l.removes l.remove-index l.fn.body l.body
