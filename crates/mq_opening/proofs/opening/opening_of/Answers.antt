use Rattle.mq_opening.proofs.OpeningLaws.{opening_so}
use Rattle.mq_opening.proofs.opening.opening_of.Goals as goal

pub returns-in-Ok : goal.returns-in-Ok
returns-in-Ok g c = opening_so g.D.Disk.tells _ c.args.core.now c.in-Ok.image c.before_start.result c.core.view_is c.before_start.ensures c.in-Ok.ensures
