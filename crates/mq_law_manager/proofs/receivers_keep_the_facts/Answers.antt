use Rattle.mq_spec_manager.specs.Agents.{receive}
use Rattle.mq_law_manager.proofs.Receiving.{receive_keeps}
use Rattle.mq_law_manager.proofs.Stocks.{receive_stocked}
use Rattle.mq_law_manager.proofs.Ending.{joined}
use Rattle.mq_law_manager.proofs.receivers_keep_the_facts.Goals as goal

pub returns : goal.returns
returns c = λ channel unit last batch p h. joined (receive channel unit last batch p) p h (receive_keeps channel unit last batch p h.named h.facts) (receive_stocked channel unit last batch p h.stocked)
