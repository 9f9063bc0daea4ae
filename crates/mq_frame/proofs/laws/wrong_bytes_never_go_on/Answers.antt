use Rattle.mq_frame.proofs.Streams.{cut_may, bad_never}
use Rattle.mq_frame.proofs.laws.wrong_bytes_never_go_on.Goals as goal

pub returns : goal.returns
returns c = record { cut = λ bytes frames rest h. cut_may bytes frames rest h; bad = λ bytes place h may. bad_never bytes place h may }
