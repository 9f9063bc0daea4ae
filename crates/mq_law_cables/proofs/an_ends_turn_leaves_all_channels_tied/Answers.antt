use Rattle.mq_law_cables.proofs.Keeping as keeping
use Rattle.mq_law_cables.proofs.an_ends_turn_leaves_all_channels_tied.Goals as goal

pub returns : goal.returns
returns c = record { sender = λ o. keeping.turned; receiver = keeping.taken }
