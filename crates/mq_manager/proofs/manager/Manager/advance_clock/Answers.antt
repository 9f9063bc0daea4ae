use Rattle.mq_manager.proofs.AsideLaws.{kept_clock}
use Rattle.mq_manager.proofs.manager.Manager.advance_clock.Goals as goal

pub invariant_of-self : goal.invariant_of-self
invariant_of-self g c = kept_clock g.D.Disk.tells c.self.inside.read c.args.by c.self.inside.core c.advance_clock.new.core c.advance_clock.ensures c.self.invariant
