use Rattle.std.proofs.Common.{◌≡◌, [], length}
use Rattle.mq_scn_text.specs.Sections.{joined_from}
use Rattle.mq_scn_text.proofs.sections.joined_read.Given as goal

abbrev pub invariant-reading : goal.invariant-reading
invariant-reading l = joined_from l.first [] l.lines ≡ joined_from l.first l.commands l.rest

abbrev pub decreases-reading : goal.decreases-reading
decreases-reading l = length l.rest
