use Rattle.mq_law_pump.proofs.Staying.{never_stopped, runs_before}
use Rattle.mq_law_pump.proofs.turns_start_no_sender_and_stop_no_receiver.Goals as goal

pub returns-clause-starts : goal.returns-clause-starts
returns-clause-starts c = runs_before

pub returns-clause-stops : goal.returns-clause-stops
returns-clause-stops c = never_stopped
