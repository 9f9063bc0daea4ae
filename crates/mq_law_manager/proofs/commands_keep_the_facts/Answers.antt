use Rattle.mq_spec_manager.specs.Words.{command}
use Rattle.mq_law_manager.proofs.Commanding.{command_keeps}
use Rattle.mq_law_manager.proofs.StockCommands.{command_stocked}
use Rattle.mq_law_manager.proofs.Ending.{joined}
use Rattle.mq_law_manager.proofs.commands_keep_the_facts.Goals as goal

pub returns : goal.returns
returns c = λ x p h. joined (command x p) p h (command_keeps x p h.stocked.rows h.facts) (command_stocked x p h.stocked)
