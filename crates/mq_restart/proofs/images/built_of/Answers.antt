use Rattle.mq_recover.specs.Found.{start_in}
use Rattle.mq_restart.specs.Begun.{given_by}
use Rattle.mq_restart.proofs.ReadLaws.{is_image, is_read}
use Rattle.mq_restart.proofs.images.built_of.Goals as goal

pub build-requires : goal.build-requires
build-requires g c = record { image = is_image (given_by c.args.number c.args.name.now c.args.log.now.max) (start_in c.args.start) c.args.log.now.bodies c.in-Ok.image c.in-Ok.ensures.recovers c.in-Ok.ensures.bytes }

pub returns-in-Ok-build : goal.returns-in-Ok-build
returns-in-Ok-build g c = is_read (given_by c.args.number c.args.name.now c.args.log.now.max) (start_in c.args.start) c.args.log.now.bodies c.in-Ok.image c.in-Ok-build.built c.in-Ok.ensures.recovers c.in-Ok.ensures.bytes c.in-Ok-build.ensures
