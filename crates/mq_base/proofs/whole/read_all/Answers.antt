use Rattle.std.proofs.Common.{◌++◌, take}
use Rattle.std.proofs.KnownBytes.{Consumes-trans}
use Rattle.mq_base.proofs.whole.read_all.Goals as goal

pub returns-in_err-extend_from_slice-in-Ok-clause-front :
    goal.returns-in_err-extend_from_slice-in-Ok-clause-front
returns-in_err-extend_from_slice-in-Ok-clause-front g c =
    let piece = take c.in-Ok.count c.read.new.buf in
    (c.reading.bytes.items ++ piece, Consumes-trans (g.S.Source.left c.args.source.now) (g.S.Source.left c.reading.source) (g.S.Source.left c.read.new.self) c.reading.bytes.items piece c.reading.invariant.so_far c.in-Ok.ensures.bytes.0)
