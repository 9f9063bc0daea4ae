use Rattle.mq_takes.proofs.PlaceLaws.{takes_all}
use Rattle.mq_takes.proofs.taking.taken_at.Goals as goal

pub returns-in-Ok : goal.returns-in-Ok
returns-in-Ok g c = takes_all c.args.batch.now c.in-Ok.taken c.args.manager.now.plain c.facts.ensures.well c.requires.up c.in-Ok.ensures
