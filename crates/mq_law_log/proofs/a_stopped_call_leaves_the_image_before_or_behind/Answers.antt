use Rattle.mq_law_log.proofs.Ties.{call_recovers}
use Rattle.mq_law_log.proofs.a_stopped_call_leaves_the_image_before_or_behind.Goals as goal

pub returns : goal.returns
returns c = call_recovers
