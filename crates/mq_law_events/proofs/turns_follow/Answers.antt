use Rattle.mq_law_events.proofs.Moving as moving
use Rattle.mq_law_events.proofs.Serving as serving
use Rattle.mq_law_events.proofs.turns_follow.Goals as goal

pub returns : goal.returns
returns c = record {
  triggers = serving.serves;
  discards = λ m given p l q i f t h free. serving.discard_follows m given p l q i f t (h.facts.apart.once q) free;
  moves = moving.move_once_told;
}
