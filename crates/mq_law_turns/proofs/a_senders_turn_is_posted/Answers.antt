use Rattle.mq_law_turns.proofs.Posting as posting
use Rattle.mq_law_turns.proofs.a_senders_turn_is_posted.Goals as goal

pub returns : goal.returns
returns c = record { nothing = posting.posts; expired = posting.expires }
