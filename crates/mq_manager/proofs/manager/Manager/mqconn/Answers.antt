use Rattle.mq_manager.proofs.CallLaws.{kept_conn}
use Rattle.mq_manager.proofs.manager.Manager.mqconn.Goals as goal

pub invariant_of-self : goal.invariant_of-self
invariant_of-self g c = kept_conn g.D.Disk.tells c.self.inside.read c.self.inside.core c.mqconn.new.core c.self.invariant c.args.qmgr.now c.args.appl.now c.mqconn.result c.mqconn.ensures.meets c.mqconn.ensures.told
