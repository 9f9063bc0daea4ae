use Rattle.std.proofs.Common.{◌≡◌, length}
use Rattle.mq_rules_text.specs.Pairs.{distinct}
use Rattle.mq_rules_text.proofs.pairs.distinct.Given as goal

abbrev pub invariant-reading : goal.invariant-reading
invariant-reading l = distinct l.pairs ≡ distinct l.rest

abbrev pub decreases-reading : goal.decreases-reading
decreases-reading l = length l.rest
