use Rattle.mq_frame.proofs.Streams.{fresh_given}
use Rattle.mq_frame.proofs.decoder.Decoder.reset.Goals as goal

pub returns : goal.returns
returns c = fresh_given c.clear.new.self.items c.clear.ensures.items
