use Rattle.mq_manager.proofs.TellLaws.{tells_after}
use Rattle.mq_manager.proofs.laws.a_call_keeps_what_the_log_tells.Goals as goal

pub returns : goal.returns
returns c d = tells_after
