use Rattle.mq_manager.proofs.AsideLaws.{kept_taken}
use Rattle.mq_manager.proofs.manager.Manager.take_delta.Goals as goal

pub invariant_of-self : goal.invariant_of-self
invariant_of-self g c = kept_taken g.D.Disk.tells c.self.inside.read c.self.inside.core c.take_delta.new.core c.take_delta.ensures.left c.self.invariant
