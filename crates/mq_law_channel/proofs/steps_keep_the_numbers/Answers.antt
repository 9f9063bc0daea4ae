use Rattle.mq_law_channel.proofs.Agreeing.{begins_counting, begins_set}
use Rattle.mq_law_channel.proofs.Numbering.{sender_turn_counts}
use Rattle.mq_law_channel.proofs.Recounting as by
use Rattle.mq_law_channel.proofs.steps_keep_the_numbers.Goals as goal

pub returns : goal.returns
returns c = record {
  begins = begins_counting;
  begins_set = begins_set;
  sender = sender_turn_counts;
  receiver = by.receiver_turn_counts;
  timeout = by.timeouts_count;
  sender_starts = by.sender_starts_counting;
  sender_stops = by.sender_stops_counting;
  sender_rests = by.sender_rests_counting;
  sender_resets = by.sender_resets_counting;
  receiver_resets = by.receiver_resets_counting;
  resolves_commit = by.resolves_commit_counting;
  resolves_backout = by.resolves_backout_counting;
  receiver_starts = by.receiver_starts_counting;
  receiver_stops = by.receiver_stops_counting;
  receiver_halts = by.receiver_halts_counting;
  receiver_rests = by.receiver_rests_counting;
}
