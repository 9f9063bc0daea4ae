use Rattle.std.proofs.Common.{◌∙◌}
use Rattle.mq_net_conflict.proofs.ToldLaws.{committed_lines}
use Rattle.mq_net_conflict.proofs.told.committed_in.Goals as goal

pub returns : goal.returns
returns c = c.any_committed.ensures ∙ committed_lines c.args.histories.now c.args.channel.now c.args.unit c.args.spots.now
