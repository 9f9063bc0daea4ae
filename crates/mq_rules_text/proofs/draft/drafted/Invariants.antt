use Rattle.std.proofs.Common.{◌≡◌, length}
use Rattle.mq_rules_text.specs.Entries.{drafted, empty_draft}
use Rattle.mq_rules_text.proofs.draft.drafted.Given as goal

abbrev pub invariant-reading : goal.invariant-reading
invariant-reading l = drafted l.pairs empty_draft ≡ drafted l.rest l.draft

abbrev pub decreases-reading : goal.decreases-reading
decreases-reading l = length l.rest
