use Rattle.mq_frame.proofs.Streams.{one_frame}
use Rattle.mq_frame.proofs.laws.no_frame_begins_another.Goals as goal

pub returns : goal.returns
returns c = λ frame other rest left p q e. one_frame frame other rest left p q e
