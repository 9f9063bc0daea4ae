use Rattle.mq_restarts.proofs.StepLaws.{unmade, own_well, own_low, own_ends}
use Rattle.mq_restarts.proofs.coming.come_own.Goals as goal

pub returns-in-Err : goal.returns-in-Err
returns-in-Err g c = unmade (λ i. i) c.args.found c.args.parts.now c.in-Err.fault c.unread.result c.unread.ensures c.in-Err.ensures

pub start_from-requires : goal.start_from-requires
start_from-requires g c = record { well = own_well c.args.parts.now c.in-Ok.image c.in-Ok.ensures; low = own_low c.args.parts.now c.in-Ok.image c.in-Ok.ensures; fresh = c.requires.fresh }

pub returns : goal.returns
returns g c = own_ends c.args.parts.now c.start_from.new.parts c.in-Ok.image c.args.found c.start_from.result c.in-Ok.ensures c.start_from.ensures.found c.start_from.ensures.ends
