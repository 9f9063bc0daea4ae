use Rattle.std.proofs.Common.{◌∙◌}
use Rattle.std.specs.Prelude.{None}
use Rattle.mq_index.specs.Lanes.{in_order}
use Rattle.mq_index.specs.Walks.{stored}
use Rattle.mq_index.proofs.WalkLaws.{find_after}
use Rattle.mq_index.proofs.rows.first_after.Goals as goal

pub returns : goal.returns
returns c = c.found.ensures ∙ find_after (record { msg_id = None; correl_id = None }) c.args.after (in_order (stored c.args.store.now.slots))
