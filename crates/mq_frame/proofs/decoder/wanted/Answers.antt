use Rattle.std.proofs.Common.{arith}
use Rattle.mq_frame.proofs.Bodies.{body_stays}
use Rattle.mq_frame.proofs.decoder.wanted.Goals as goal

pub returns : goal.returns
returns c = λ more short.
    let long = c.if-bytes-lt-BODY_PLACE.false in
    body_stays c.args.bytes.now c.requires (omega arith) more (omega (arith, short, c.read_u32.ensures))
