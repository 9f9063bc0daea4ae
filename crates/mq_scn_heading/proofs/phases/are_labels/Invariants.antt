use Rattle.std.proofs.Common.{◌≡◌, length}
use Rattle.mq_scn_lines.specs.Words.{texts_of}
use Rattle.mq_scn_heading.specs.Phases.{are_labels}
use Rattle.mq_scn_heading.proofs.phases.are_labels.Given as goal

abbrev pub invariant-reading : goal.invariant-reading
invariant-reading l = are_labels (texts_of l.words) ≡ are_labels (texts_of l.rest)

abbrev pub decreases-reading : goal.decreases-reading
decreases-reading l = length l.rest
