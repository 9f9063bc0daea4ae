use Rattle.mq_told.proofs.imaging.image_on.Goals as goal

pub image_of-requires : goal.image_of-requires
image_of-requires g c = record { bodies = c.args.log.now.bodies; fits = c.bodies-bodies.ensures.fits; framed_is = c.bodies-bodies.ensures.framed }

pub returns : goal.returns
returns g c = λ given n m. c.image_of.ensures given n m c.args.log.now.bodies c.bodies-bodies.ensures.fits c.bodies-bodies.ensures.framed
