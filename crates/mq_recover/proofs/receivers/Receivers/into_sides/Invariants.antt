use Rattle.std.proofs.Common.{◌≡◌, ◌++◌, length}
use Rattle.mq_recover.specs.Kept.{receiver_sides}
use Rattle.mq_recover.proofs.receivers.Receivers.into_sides.Given as goal

abbrev pub invariant-loop-key : goal.invariant-loop-key
invariant-loop-key l = l.found ++ receiver_sides l.left.entries ≡ l.fn.self

abbrev pub decreases-loop-key : goal.decreases-loop-key
decreases-loop-key l = length l.left.entries
