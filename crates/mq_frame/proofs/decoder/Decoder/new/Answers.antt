use Rattle.mq_frame.proofs.Streams.{fresh_given}
use Rattle.mq_frame.proofs.decoder.Decoder.new.Goals as goal

pub returns : goal.returns
returns c = fresh_given c.new.result.items c.new.ensures.items
