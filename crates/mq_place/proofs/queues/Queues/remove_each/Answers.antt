use Rattle.std.proofs.Common.{◌∙◌}
use Rattle.mq_place.proofs.StateLaws.{removed_all}
use Rattle.mq_place.proofs.queues.Queues.remove_each.Goals as goal

pub returns : goal.returns
returns g c = c.remove_rows.ensures ∙ removed_all c.args.name.now c.args.idents.now c.args.self.now
