use Rattle.std.proofs.Common.{subst}
use Rattle.mq_frame.specs.Reading.{IsBytes}
use Rattle.mq_restart.proofs.ReadLaws.{bodies_are}
use Rattle.mq_restart.proofs.images.bodies_are_bytes.Goals as goal

pub returns : goal.returns
returns g c = bodies_are c.args.log.now.bodies (subst IsBytes c.bodies-bodies.ensures.framed c.are_bytes.ensures)
