use Rattle.std.proofs.Common.{◌≡◌, ◌++◌}
use Rattle.mq_recover.specs.Kept.{receiver_sides}
use Rattle.mq_recover.proofs.receivers.copy_sides.Given as goal

abbrev pub invariant-loop-key : goal.invariant-loop-key
invariant-loop-key l = l.copies ++ receiver_sides l.key-iterator ≡ receiver_sides l.fn.sides.entries
