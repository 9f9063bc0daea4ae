use Rattle.std.specs.Prelude.{length}
use Rattle.mq_index.specs.Walks.{WalksAt, is_taken}
use Rattle.mq_index.proofs.WalkLaws.{left_at}
use Rattle.mq_index.proofs.walk.walk.Given as goal

abbrev pub invariant-loop-at : goal.invariant-loop-at
invariant-loop-at l = WalksAt (is_taken l.key.lane l.any l.want l.after) l.kind l.key l.slots l.at

abbrev pub decreases-loop-at : goal.decreases-loop-at
decreases-loop-at l = left_at (length l.slots) l.at
