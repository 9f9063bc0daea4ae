use Rattle.mq_manager.proofs.BeginLaws.{kept_begun}
use Rattle.mq_manager.proofs.manager.Manager.begin.Goals as goal

pub invariant_of-result : goal.invariant_of-result
invariant_of-result g c = kept_begun g.D.Disk.tells _ _ _ _ c.in-Ok.core c.in-Ok.ensures.begun
