use Rattle.mq_law_log.proofs.Commanded.{command_harmless}
use Rattle.mq_law_log.proofs.commands_are_harmless.Goals as goal

pub returns : goal.returns
returns c = command_harmless
