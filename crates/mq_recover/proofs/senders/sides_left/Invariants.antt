use Rattle.std.proofs.Common.{◌≡◌, ◌++◌, length}
use Rattle.mq_recover.specs.Kept.{struck_at, sender_sides}
use Rattle.mq_recover.proofs.senders.sides_left.Given as goal

abbrev pub invariant-loop-key : goal.invariant-loop-key
invariant-loop-key l = l.found ++ sender_sides (struck_at l.struck) l.left.entries ≡ sender_sides (struck_at l.struck) l.fn.sides.entries

abbrev pub decreases-loop-key : goal.decreases-loop-key
decreases-loop-key l = length l.left.entries
