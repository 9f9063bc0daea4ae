use Rattle.mq_place.proofs.DueLaws.{noted_last}
use Rattle.mq_place.proofs.due.DueNames.add.Goals as goal

pub returns-clause-there : goal.returns-clause-there
returns-clause-there c = noted_last c.self.inside.all c.args.name.now c.self.inside.names.items _ c.push_reserved.ensures.items
