use Rattle.mq_law_stopped.proofs.Noting as noting
use Rattle.mq_law_stopped.proofs.turns_of_ends_note_what_they_write.Goals as goal

pub returns : goal.returns
returns c = record { senders = noting.sender_says; receivers = noting.receiver_says }
