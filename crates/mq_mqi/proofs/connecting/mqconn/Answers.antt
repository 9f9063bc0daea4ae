use Rattle.mq_core.proofs.SeatLaws.{tied_seated}
use Rattle.mq_mqi.proofs.connecting.mqconn.Goals as goal

pub invariant_of-core : goal.invariant_of-core
invariant_of-core g c = tied_seated c.core.inside.parts c.connect.new.self c.connect.ensures.seated.0 c.connect.ensures.seated.1 c.core.invariant
