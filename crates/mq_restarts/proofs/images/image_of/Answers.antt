use Rattle.mq_restarts.proofs.StepLaws.{told_at}
use Rattle.mq_restarts.proofs.images.image_of.Goals as goal

pub returns-in-Ok : goal.returns-in-Ok
returns-in-Ok g c = told_at _ c.args.parts.now c.in-Ok.image c.parts.view_is c.in-Ok.ensures.recovers c.in-Ok.ensures.bytes
