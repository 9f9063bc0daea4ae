use Rattle.std.proofs.Common.{◌≡◌, length}
use Rattle.mq_scn_lines.specs.Words.{texts_of}
use Rattle.mq_scn_lines.specs.Options.{has_group}
use Rattle.mq_scn_lines.proofs.options.has_group.Given as goal

abbrev pub invariant-reading : goal.invariant-reading
invariant-reading l = has_group l.allowed l.option (texts_of l.words) ≡ has_group l.allowed l.option (texts_of l.rest)

abbrev pub decreases-reading : goal.decreases-reading
decreases-reading l = length l.rest
