use Rattle.std.proofs.Common.{◌∙◌}
use Rattle.mq_index.specs.Lanes.{in_order}
use Rattle.mq_index.specs.Walks.{stored}
use Rattle.mq_index.proofs.WalkLaws.{find_takable}
use Rattle.mq_index.proofs.rows.first_takable.Goals as goal

pub returns : goal.returns
returns c = c.found.ensures ∙ find_takable c.args.want.now c.args.after (in_order (stored c.args.store.now.slots))
