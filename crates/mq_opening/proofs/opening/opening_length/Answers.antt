use Rattle.mq_opening.proofs.OpeningLaws.{length_so}
use Rattle.mq_opening.proofs.opening.opening_length.Goals as goal

pub returns : goal.returns
returns g c = length_so g.D.Disk.tells _ c.args.core.now c.length_in.result c.core.view_is c.length_in.ensures
