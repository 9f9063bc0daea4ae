use Rattle.std.proofs.Common.{◌≡◌, ◌+◌, length}
use Rattle.mq_scn_lines.specs.Words.{texts_of}
use Rattle.mq_scn_heading.specs.Cables.{back_place}
use Rattle.mq_scn_heading.proofs.cables.back_place.Given as goal

abbrev pub invariant-reading : goal.invariant-reading
invariant-reading l = record { place : back_place (texts_of l.words) ≡ l.place + back_place (texts_of l.rest); within : l.place + length l.rest ≡ length l.words }

abbrev pub decreases-reading : goal.decreases-reading
decreases-reading l = length l.rest
