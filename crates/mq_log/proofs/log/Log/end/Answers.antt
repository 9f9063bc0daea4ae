use Rattle.std.proofs.Common.{subst}
use Rattle.mq_log.specs.State.{LogState, IsLogOf}
use Rattle.mq_log.proofs.Opened.{stands}
use Rattle.mq_log.proofs.log.Log.end.Goals as goal

pub returns-clause-images : goal.returns-clause-images
returns-clause-images g c t c' left =
    subst (λ (v : LogState). IsLogOf v.bodies v.pending c') c.self.view_is (stands _ _ _ _ _ _ _ _ c.self.invariant.0 t c' left)
