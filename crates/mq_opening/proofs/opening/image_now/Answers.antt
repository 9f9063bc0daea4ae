use Rattle.std.specs.Prelude.{refl}
use Rattle.mq_restart.specs.Begun.{given_by}
use Rattle.mq_opening.proofs.opening.image_now.Goals as goal

pub returns : goal.returns
returns g c = c.image.ensures (given_by c.args.number c.args.name.now c.args.log.now.max) refl refl c.args.log.now.bodies c.bodies-bodies.ensures.fits c.bodies-bodies.ensures.framed
