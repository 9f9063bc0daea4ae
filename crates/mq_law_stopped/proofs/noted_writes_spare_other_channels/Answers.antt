use Rattle.mq_law_stopped.proofs.Sparing as sparing
use Rattle.mq_law_stopped.proofs.noted_writes_spare_other_channels.Goals as goal

pub returns : goal.returns
returns c = record { senders = sparing.sender_spares; words = sparing.word_spares }
