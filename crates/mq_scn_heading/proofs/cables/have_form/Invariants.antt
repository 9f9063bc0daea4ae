use Rattle.std.proofs.Common.{◌≡◌, length}
use Rattle.mq_scn_lines.specs.Words.{texts_of}
use Rattle.mq_scn_heading.specs.Cables.{have_form}
use Rattle.mq_scn_heading.proofs.cables.have_form.Given as goal

abbrev pub invariant-reading : goal.invariant-reading
invariant-reading l = have_form (texts_of l.words) ≡ have_form (texts_of l.rest)

abbrev pub decreases-reading : goal.decreases-reading
decreases-reading l = length l.rest
