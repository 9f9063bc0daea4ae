use Rattle.mq_restarts.proofs.StepLaws.{far_well, far_low, far_stays}
use Rattle.mq_restarts.proofs.coming.come_far.Goals as goal

pub start_from-requires-clause-well : goal.start_from-requires-clause-well
start_from-requires-clause-well g c = far_well c.args.parts.now c.in-Ok.image c.above.result c.args.least c.requires.low c.in-Ok.ensures c.above.ensures

pub start_from-requires-clause-low : goal.start_from-requires-clause-low
start_from-requires-clause-low g c = far_low c.args.parts.now c.in-Ok.image c.above.result c.args.least c.requires.low c.in-Ok.ensures c.above.ensures

pub returns-in-Err-start_from : goal.returns-in-Err-start_from
returns-in-Err-start_from g c =
    far_stays c.args.parts.now c.start_from.new.parts c.in-Ok.image c.above.result c.args.found c.in-Err-start_from.e c.args.least c.in-Ok.ensures c.above.ensures c.in-Err-start_from.ensures.found c.in-Err-start_from.ensures.ends
