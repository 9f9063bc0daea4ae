use Rattle.mq_manager.proofs.CallLaws.{kept_put1}
use Rattle.mq_manager.proofs.manager.Manager.mqput1.Goals as goal

pub invariant_of-self : goal.invariant_of-self
invariant_of-self g c = kept_put1 g.D.Disk.tells c.self.inside.read c.self.inside.core c.mqput1.new.core c.self.invariant c.args.hc c.args.name.now c.args.qmgr.now c.args.md.now c.args.body.now c.args.sync c.mqput1.result c.mqput1.ensures.meets c.mqput1.ensures.told

pub mqput1-requires-clause-limit : goal.mqput1-requires-clause-limit
mqput1-requires-clause-limit g c = c.self.invariant.well.limit
