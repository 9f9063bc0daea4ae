use Rattle.mq_manager.proofs.CallLaws.{kept_cmit}
use Rattle.mq_manager.proofs.manager.Manager.mqcmit.Goals as goal

pub invariant_of-self : goal.invariant_of-self
invariant_of-self g c = kept_cmit g.D.Disk.tells c.self.inside.read c.self.inside.core c.mqcmit.new.core c.self.invariant c.args.hc c.mqcmit.result c.mqcmit.ensures.meets c.mqcmit.ensures.told
