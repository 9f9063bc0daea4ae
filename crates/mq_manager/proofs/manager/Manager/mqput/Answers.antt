use Rattle.mq_manager.proofs.CallLaws.{kept_put}
use Rattle.mq_manager.proofs.manager.Manager.mqput.Goals as goal

pub invariant_of-self : goal.invariant_of-self
invariant_of-self g c = kept_put g.D.Disk.tells c.self.inside.read c.self.inside.core c.mqput.new.core c.self.invariant c.args.hc c.args.ho c.args.md.now c.args.body.now c.args.sync c.mqput.result c.mqput.ensures.meets c.mqput.ensures.told

pub mqput-requires-clause-limit : goal.mqput-requires-clause-limit
mqput-requires-clause-limit g c = c.self.invariant.well.limit
