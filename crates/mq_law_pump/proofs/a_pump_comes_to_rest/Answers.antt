use Rattle.mq_law_pump.proofs.AtRest.{comes_to_rest}
use Rattle.mq_law_pump.proofs.a_pump_comes_to_rest.Goals as goal

pub returns : goal.returns
returns c = comes_to_rest
