use Rattle.mq_manager.proofs.CallLaws.{kept_get}
use Rattle.mq_manager.proofs.manager.Manager.mqget.Goals as goal

pub invariant_of-self : goal.invariant_of-self
invariant_of-self g c = kept_get g.D.Disk.tells c.self.inside.read c.self.inside.core c.mqget.new.core c.self.invariant c.args.hc c.args.ho c.args.get.now c.args.until c.mqget.result c.mqget.ensures.meets c.mqget.ensures.told
