use Rattle.std.proofs.Common.{◌≡◌, [], length}
use Rattle.mq_scn_lines.specs.Words.{texts_of}
use Rattle.mq_scn_heading.specs.Phases.{places_from}
use Rattle.mq_scn_heading.proofs.phases.places_of.Given as goal

abbrev pub invariant-reading : goal.invariant-reading
invariant-reading l = places_from l.scenario.scripts [] (texts_of l.words) ≡ places_from l.scenario.scripts l.places (texts_of l.rest)

abbrev pub decreases-reading : goal.decreases-reading
decreases-reading l = length l.rest
