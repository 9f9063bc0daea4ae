use Rattle.mq_recover.specs.Found.{given_as}
use Rattle.mq_told.proofs.ToldLaws.{whole_told}
use Rattle.mq_told.proofs.imaging.told_front.Goals as goal

pub returns-in-Ok : goal.returns-in-Ok
returns-in-Ok c = λ all fits e. whole_told c.args.manager c.args.name.now all c.tell.result (c.in-Ok.ensures (given_as c.args.manager c.args.name.now) all fits e) (c.tell.ensures all fits e)
