use Rattle.std.proofs.Common.{◌∙◌}
use Rattle.mq_ending.proofs.VerdictLaws.{disk_lines}
use Rattle.mq_ending.proofs.verdict.any_disk.Goals as goal

pub returns : goal.returns
returns c = c.any_disk_at.ensures ∙ disk_lines c.args.histories.now c.args.spots.now
