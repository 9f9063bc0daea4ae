use Rattle.mq_index.proofs.FoundLaws.{LooksAt}
use Rattle.mq_index.proofs.store.Store.found.Given as goal

abbrev pub invariant-loop-lane : goal.invariant-loop-lane
invariant-loop-lane l = LooksAt l.any l.want l.after l.self.slots l.lane
