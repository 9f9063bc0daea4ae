use Rattle.mq_manager.proofs.RestartLaws.{kept_restart}
use Rattle.mq_manager.proofs.manager.Manager.restart.Goals as goal

pub invariant_of-self : goal.invariant_of-self
invariant_of-self g c = kept_restart g.D.Disk.tells c.self.inside.read c.restart.new.read c.self.inside.core c.restart.new.core c.restart.result c.self.invariant c.restart.ensures.ends c.restart.ensures.stands
