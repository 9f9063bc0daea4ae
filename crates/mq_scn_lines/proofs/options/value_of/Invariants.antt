use Rattle.std.proofs.Common.{◌≡◌, length}
use Rattle.mq_scn_lines.specs.Words.{texts_of}
use Rattle.mq_scn_lines.specs.Options.{value_of}
use Rattle.mq_scn_lines.proofs.options.value_of.Given as goal

abbrev pub invariant-reading : goal.invariant-reading
invariant-reading l = value_of l.option (texts_of l.words) ≡ value_of l.option (texts_of l.rest)

abbrev pub decreases-reading : goal.decreases-reading
decreases-reading l = length l.rest
