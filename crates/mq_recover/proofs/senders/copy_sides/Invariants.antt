use Rattle.std.proofs.Common.{◌≡◌, ◌++◌}
use Rattle.mq_recover.specs.Kept.{struck_at, sender_sides}
use Rattle.mq_recover.proofs.senders.copy_sides.Given as goal

abbrev pub invariant-loop-key : goal.invariant-loop-key
invariant-loop-key l = l.copies ++ sender_sides (struck_at l.struck) l.key-iterator ≡ sender_sides (struck_at l.fn.struck) l.fn.sides.entries
