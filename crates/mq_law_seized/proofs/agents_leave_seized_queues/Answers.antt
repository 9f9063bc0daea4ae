use Rattle.mq_calls.specs.Reads.{is_up, stored}
use Rattle.std.specs.Prelude.{Some}
use Rattle.mq_spec_manager.specs.Triggers.{trigger_turn}
use Rattle.mq_spec_manager.specs.Agents.{discard, move_row, row_with}
use Rattle.mq_law_seized.proofs.CommonCalls.{discard_common, move_common, trigger_common}
use Rattle.mq_law_seized.proofs.Bare.{common_leaves}
use Rattle.mq_law_seized.proofs.Seizing as seizing
use Rattle.mq_law_seized.proofs.agents_leave_seized_queues.Goals as goal

pub returns : goal.returns
returns c = record {
  triggers = λ p h. common_leaves (trigger_turn p) p (trigger_common (is_up p.running) p) h;
  moves = λ from ident to bare p h. common_leaves (move_row from ident to bare p) p (move_common from to bare (row_with (Some ident) (stored from p).rows) p) h;
  discards = λ queue ident p h. common_leaves (discard queue ident p) p (discard_common queue ident p) h;
  seizes = seizing.seizes;
  leaves = seizing.leaves;
  binds = seizing.binds;
  expires = seizing.expires;
  holds = seizing.holds_batch;
  releases = seizing.releases;
  prepares = seizing.prepares;
  hardens = seizing.hardens;
  receives = seizing.receives;
}
