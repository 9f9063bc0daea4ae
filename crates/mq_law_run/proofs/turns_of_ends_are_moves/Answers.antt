use Rattle.mq_law_run.proofs.Turning as turning
use Rattle.mq_law_run.proofs.turns_of_ends_are_moves.Goals as goal

pub returns : goal.returns
returns c = record { senders = turning.senders; receivers = turning.receivers; timeouts = turning.timeouts }
