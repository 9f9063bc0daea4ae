use Rattle.mq_law_run.proofs.Commanding as commanding
use Rattle.mq_law_run.proofs.commands_on_senders_are_moves.Goals as goal

pub returns : goal.returns
returns c = record { starting = commanding.starting; stopping = commanding.stopping; resetting = commanding.resetting }
