use Rattle.mq_law_image.proofs.Counting.{call_bounded}
use Rattle.mq_law_image.proofs.calls_raise_counters_by_what_they_do.Goals as goal

pub returns : goal.returns
returns c d = call_bounded
