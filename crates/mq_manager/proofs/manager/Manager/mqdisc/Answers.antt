use Rattle.mq_manager.proofs.CallLaws.{kept_disc}
use Rattle.mq_manager.proofs.manager.Manager.mqdisc.Goals as goal

pub invariant_of-self : goal.invariant_of-self
invariant_of-self g c = kept_disc g.D.Disk.tells c.self.inside.read c.self.inside.core c.mqdisc.new.core c.self.invariant c.args.hc c.mqdisc.result c.mqdisc.ensures.meets c.mqdisc.ensures.told
