use Rattle.mq_law_cables.proofs.Differing.{leads}
use Rattle.mq_law_cables.proofs.channels_of_a_scenario_differ.Goals as goal

pub returns : goal.returns
returns c = leads
