use Rattle.mq_frame.proofs.Streams.{one_cut}
use Rattle.mq_frame.proofs.laws.bytes_are_cut_in_one_way.Goals as goal

pub returns : goal.returns
returns c = λ bytes frames others rest left p q. one_cut bytes frames others rest left p q
