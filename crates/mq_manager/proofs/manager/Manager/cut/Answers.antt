use Rattle.mq_manager.proofs.AsideLaws.{kept_cut}
use Rattle.mq_manager.proofs.manager.Manager.cut.Goals as goal

pub invariant_of-self : goal.invariant_of-self
invariant_of-self g c = kept_cut g.D.Disk.tells c.self.inside.read c.args.k c.self.inside.core c.cut.new.core c.cut.ensures c.self.invariant
