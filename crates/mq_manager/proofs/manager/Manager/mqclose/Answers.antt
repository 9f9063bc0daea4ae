use Rattle.mq_manager.proofs.CallLaws.{kept_close}
use Rattle.mq_manager.proofs.manager.Manager.mqclose.Goals as goal

pub invariant_of-self : goal.invariant_of-self
invariant_of-self g c = kept_close g.D.Disk.tells c.self.inside.read c.self.inside.core c.mqclose.new.core c.self.invariant c.args.hc c.args.ho c.mqclose.result c.mqclose.ensures.meets c.mqclose.ensures.told
