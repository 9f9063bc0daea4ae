use Rattle.mq_law_channel.proofs.Holding as by
use Rattle.mq_law_channel.proofs.a_unit_in_doubt_is_within_the_receivers_sessions.Goals as goal

pub returns : goal.returns
returns c = record {
  begins = by.begins_held;
  in_session = by.session_holds;
  sender = by.sender_turn_holds;
  timeout = λ d p h. h;
  sender_starts = λ limits d p h. h;
  sender_stops = λ d p h. by.released_holds d p h;
  sender_rests = λ m d p h. by.released_holds d p h;
  sender_noted = by.noted_holds;
  sender_resets = λ last d p h. h;
  resolves = by.resolved_holds;
  receiver = by.rising_holds;
  in_doubt = by.doubt_within;
  again = by.held_again;
}
