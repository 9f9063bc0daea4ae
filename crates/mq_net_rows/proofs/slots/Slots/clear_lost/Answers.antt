use Rattle.mq_net_rows.proofs.StoreLaws.{lasting_all}
use Rattle.mq_net_rows.proofs.slots.Slots.clear_lost.Goals as goal

pub invariant_of-self : goal.invariant_of-self
invariant_of-self c = lasting_all c.len-self-inside.result c.self.inside.slots c.clear_lost_from.new.store c.clear_lost_from.ensures c.len-self-inside.ensures
