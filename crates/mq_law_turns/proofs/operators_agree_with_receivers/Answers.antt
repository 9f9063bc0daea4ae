use Rattle.mq_law_turns.proofs.Agreeing as agreeing
use Rattle.mq_law_turns.proofs.operators_agree_with_receivers.Goals as goal

pub returns : goal.returns
returns c = record {
  agreed = agreeing.agreed;
  backed_out = agreeing.backs_out_rightly;
  grows = agreeing.grows;
  sender = agreeing.sender_tells;
  stops = agreeing.released_tells;
  commits = agreeing.commit_tells;
  backs_out = agreeing.backout_tells;
  receiver = agreeing.receiver_tells;
}
