use Rattle.mq_law_channel.proofs.Closing.{alone_of, same_later, later_on, later_rises, turn_leaves, start_leaves, stop_leaves, halt_leaves, rest_leaves, reset_leaves, dead_later, places_live}
use Rattle.mq_law_channel.proofs.closed_sessions_stay_closed.Goals as goal

pub returns : goal.returns
returns c = record {
  facts = alone_of;
  turn = λ t d a r. (turn_leaves t d a r).alone;
  turn_later = λ t d a r. (turn_leaves t d a r).later;
  start = λ d a. (start_leaves d a).alone;
  start_later = λ d a. (start_leaves d a).later;
  stop = λ d a. (stop_leaves d a).alone;
  stop_later = λ d a. (stop_leaves d a).later;
  halt = λ d a. (halt_leaves d a).alone;
  halt_later = λ d a. (halt_leaves d a).later;
  rest = λ d a. (rest_leaves d a).alone;
  rest_later = λ d a. (rest_leaves d a).later;
  reset = λ last d a. (reset_leaves last d a).alone;
  reset_later = λ last d a. (reset_leaves last d a).later;
  same = same_later;
  later = later_on;
  rises = later_rises;
  dead = dead_later;
  live = λ t d u a e. places_live t d a u e;
}
