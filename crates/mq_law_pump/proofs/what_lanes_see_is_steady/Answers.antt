use Rattle.mq_law_pump.proofs.AtRest.{is_steady}
use Rattle.mq_law_pump.proofs.what_lanes_see_is_steady.Goals as goal

pub returns : goal.returns
returns c = is_steady
