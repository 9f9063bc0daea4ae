use Rattle.mq_law_channel.proofs.Reaching.{begins_reached, sender_turn_reaches, timeout_reaches, resting_reaches, rising_reaches}
use Rattle.mq_law_channel.proofs.no_unit_is_sent_before_its_session_is_bound.Goals as goal

pub returns : goal.returns
returns c = record { begins = begins_reached; sender = sender_turn_reaches; timeout = timeout_reaches; rests = resting_reaches; receiver = rising_reaches }
