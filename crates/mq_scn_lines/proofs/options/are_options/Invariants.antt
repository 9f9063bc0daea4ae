use Rattle.std.proofs.Common.{◌≡◌, length}
use Rattle.mq_scn_lines.specs.Words.{texts_of}
use Rattle.mq_scn_lines.specs.Options.{are_options}
use Rattle.mq_scn_lines.proofs.options.are_options.Given as goal

abbrev pub invariant-reading : goal.invariant-reading
invariant-reading l = are_options l.allowed (texts_of l.words) ≡ are_options l.allowed (texts_of l.rest)

abbrev pub decreases-reading : goal.decreases-reading
decreases-reading l = length l.rest
