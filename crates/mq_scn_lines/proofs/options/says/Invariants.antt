use Rattle.std.proofs.Common.{◌≡◌, length}
use Rattle.mq_scn_lines.specs.Words.{texts_of}
use Rattle.mq_scn_lines.specs.Options.{says}
use Rattle.mq_scn_lines.proofs.options.says.Given as goal

abbrev pub invariant-reading : goal.invariant-reading
invariant-reading l = says l.option (texts_of l.words) ≡ says l.option (texts_of l.rest)

abbrev pub decreases-reading : goal.decreases-reading
decreases-reading l = length l.rest
