use Rattle.mq_recover.specs.Found.{given_as}
use Rattle.mq_told.proofs.told.front_of.Goals as goal

pub returns-in_default : goal.returns-in_default
returns-in_default c = c.no_front.ensures (given_as c.args.manager c.args.name.now) c.args.framed.now

pub returns-in-None : goal.returns-in-None
returns-in-None c = c.no_front-in-None.ensures (given_as c.args.manager c.args.name.now) c.args.framed.now
