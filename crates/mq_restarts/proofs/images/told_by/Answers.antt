use Rattle.std.proofs.Common.{refl, subst}
use Rattle.mq_frame.specs.Reading.{IsBytes}
use Rattle.mq_restart.specs.Begun.{given_by}
use Rattle.mq_restart.proofs.ReadLaws.{bodies_are}
use Rattle.mq_restarts.proofs.images.told_by.Goals as goal

pub returns-clause-recovers : goal.returns-clause-recovers
returns-clause-recovers g c = c.image_on.ensures (given_by c.args.number c.args.name.now c.args.log.now.max) refl refl

pub returns-clause-bytes : goal.returns-clause-bytes
returns-clause-bytes g c = bodies_are c.args.log.now.bodies (subst IsBytes c.bodies-bodies.ensures.framed c.are_bytes.ensures)
