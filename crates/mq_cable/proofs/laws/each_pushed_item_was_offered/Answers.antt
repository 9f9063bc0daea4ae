use Rattle.mq_cable.proofs.MadeLaws.{each_made}
use Rattle.mq_cable.proofs.laws.each_pushed_item_was_offered.Goals as goal

pub returns : goal.returns
returns c = each_made
