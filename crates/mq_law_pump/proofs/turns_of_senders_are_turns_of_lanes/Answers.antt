use Rattle.mq_law_pump.proofs.Sending.{sender_turns}
use Rattle.mq_law_pump.proofs.TimingOut.{sender_times_out}
use Rattle.mq_law_pump.proofs.turns_of_senders_are_turns_of_lanes.Goals as goal

pub returns-clause-turns : goal.returns-clause-turns
returns-clause-turns c = sender_turns

pub returns-clause-timeouts : goal.returns-clause-timeouts
returns-clause-timeouts c = sender_times_out
