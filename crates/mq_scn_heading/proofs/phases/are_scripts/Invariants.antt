use Rattle.std.proofs.Common.{◌≡◌, length}
use Rattle.mq_scn_lines.specs.Words.{texts_of}
use Rattle.mq_scn_heading.specs.Phases.{are_scripts}
use Rattle.mq_scn_heading.proofs.phases.are_scripts.Given as goal

abbrev pub invariant-reading : goal.invariant-reading
invariant-reading l = are_scripts l.scenario.scripts (texts_of l.words) ≡ are_scripts l.scenario.scripts (texts_of l.rest)

abbrev pub decreases-reading : goal.decreases-reading
decreases-reading l = length l.rest
