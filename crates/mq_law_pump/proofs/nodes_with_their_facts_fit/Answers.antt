use Rattle.mq_law_pump.proofs.Fitting.{fits}
use Rattle.mq_law_pump.proofs.nodes_with_their_facts_fit.Goals as goal

pub returns : goal.returns
returns c = fits
