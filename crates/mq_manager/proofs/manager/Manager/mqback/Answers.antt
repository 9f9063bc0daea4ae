use Rattle.mq_manager.proofs.CallLaws.{kept_back}
use Rattle.mq_manager.proofs.manager.Manager.mqback.Goals as goal

pub invariant_of-self : goal.invariant_of-self
invariant_of-self g c = kept_back g.D.Disk.tells c.self.inside.read c.self.inside.core c.mqback.new.core c.self.invariant c.args.hc c.mqback.result c.mqback.ensures.meets c.mqback.ensures.told
