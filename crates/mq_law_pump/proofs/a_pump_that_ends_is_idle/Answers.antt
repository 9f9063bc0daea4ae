use Rattle.mq_law_pump.proofs.Pumped.{ends_idle}
use Rattle.mq_law_pump.proofs.a_pump_that_ends_is_idle.Goals as goal

pub returns : goal.returns
returns c = ends_idle
