use Rattle.mq_frame.proofs.Streams.{one_sight}
use Rattle.mq_frame.proofs.laws.bytes_show_one_thing.Goals as goal

pub returns : goal.returns
returns c = one_sight
