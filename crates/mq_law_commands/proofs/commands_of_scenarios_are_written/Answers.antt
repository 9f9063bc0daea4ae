use Rattle.mq_law_commands.proofs.Commanding as commanding
use Rattle.mq_law_commands.proofs.commands_of_scenarios_are_written.Goals as goal

pub returns : goal.returns
returns c = commanding.texts_written
