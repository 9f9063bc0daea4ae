use Rattle.std.proofs.Common.{◌∙◌}
use Rattle.mq_spec_network.specs.Conflict.{deeds}
use Rattle.mq_story.specs.Spots.{lines_of}
use Rattle.mq_net_conflict.proofs.ConflictLaws.{first_lines}
use Rattle.mq_net_conflict.proofs.settlements.conflict.Goals as goal

pub returns : goal.returns
returns c = c.first_conflict.ensures ∙ first_lines c.args.scenario.now c.args.histories.now (deeds (lines_of c.args.histories.now c.args.spots.now)) c.args.spots.now
