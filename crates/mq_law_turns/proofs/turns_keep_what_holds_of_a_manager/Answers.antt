use Rattle.mq_law_turns.proofs.Sounds as sounds
use Rattle.mq_law_turns.proofs.turns_keep_what_holds_of_a_manager.Goals as goal

pub returns : goal.returns
returns c = record { senders = sounds.senders_sound; receivers = sounds.receivers_sound }
