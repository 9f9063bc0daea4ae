use Rattle.std.proofs.Common.{◌≡◌, [], length}
use Rattle.mq_scn_lines.specs.Words.{texts_of}
use Rattle.mq_scn_heading.specs.Cables.{faults_from}
use Rattle.mq_scn_heading.proofs.cables.faults_in.Given as goal

abbrev pub invariant-reading : goal.invariant-reading
invariant-reading l = faults_from [] (texts_of l.words) ≡ faults_from l.faults (texts_of l.rest)

abbrev pub decreases-reading : goal.decreases-reading
decreases-reading l = length l.rest
