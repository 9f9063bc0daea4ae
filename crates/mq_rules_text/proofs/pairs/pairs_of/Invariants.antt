use Rattle.std.proofs.Common.{◌≡◌, length}
use Rattle.mq_rules_text.specs.Pairs.{pairs_of}
use Rattle.mq_rules_text.proofs.PairLaws.{behind_pairs}
use Rattle.mq_rules_text.proofs.pairs.pairs_of.Given as goal

abbrev pub invariant-reading : goal.invariant-reading
invariant-reading l = pairs_of l.tokens ≡ behind_pairs l.pairs (pairs_of l.rest)

abbrev pub decreases-reading : goal.decreases-reading
decreases-reading l = length l.rest
