use Rattle.mq_law_turns.proofs.Keeping as keeping
use Rattle.mq_law_turns.proofs.other_channels_stay_tied.Goals as goal

pub returns : goal.returns
returns c = record { follows = keeping.follows; sender = λ o. keeping.senders_others; receiver = keeping.receivers_others }
