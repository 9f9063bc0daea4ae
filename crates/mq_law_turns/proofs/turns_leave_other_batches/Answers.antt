use Rattle.mq_law_turns.proofs.Reading as reading
use Rattle.mq_law_turns.proofs.turns_leave_other_batches.Goals as goal

pub returns : goal.returns
returns c = record { senders = reading.senders_others; receivers = reading.receivers_others }
