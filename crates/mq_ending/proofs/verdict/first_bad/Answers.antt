use Rattle.std.proofs.Common.{◌∙◌}
use Rattle.mq_ending.proofs.VerdictLaws.{bad_lines}
use Rattle.mq_ending.proofs.verdict.first_bad.Goals as goal

pub returns : goal.returns
returns c = c.first_bad_at.ensures ∙ bad_lines c.args.histories.now c.args.spots.now
