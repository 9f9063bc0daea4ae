use Rattle.std.proofs.Common.{◌∙◌}
use Rattle.mq_net_conflict.specs.Told.{as_told}
use Rattle.mq_net_conflict.proofs.ToldLaws.{told_lines}
use Rattle.mq_net_conflict.proofs.told.told_after.Goals as goal

pub returns : goal.returns
returns c = c.told_spots.ensures ∙ told_lines c.args.histories.now c.args.channel.now c.args.spots.now (as_told c.args.begun)
