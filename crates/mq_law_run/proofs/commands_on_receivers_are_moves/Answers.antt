use Rattle.mq_law_run.proofs.Serving as serving
use Rattle.mq_law_run.proofs.commands_on_receivers_are_moves.Goals as goal

pub returns : goal.returns
returns c = record { starting = serving.starting; stopping = serving.stopping; resetting = serving.resetting }
