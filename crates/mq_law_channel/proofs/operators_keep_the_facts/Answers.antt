use Rattle.mq_law_channel.proofs.Operating as by
use Rattle.mq_law_channel.proofs.operators_keep_the_facts.Goals as goal

pub returns : goal.returns
returns c = record {
  sender_starts = by.sender_starts;
  receiver_starts = by.receiver_starts;
  sender_stops = by.sender_stops;
  receiver_stops = by.receiver_stops;
  sender_resets = by.sender_resets;
  receiver_resets = by.receiver_resets;
  resolves_commit = by.resolves_commit;
  resolves_backout = by.resolves_backout;
}
