use Rattle.std.proofs.Common.{arith}
use Rattle.mq_log.proofs.Logs.{grown}
use Rattle.mq_log.proofs.open.read_more.Goals as goal

pub returns-clause-read : goal.returns-clause-read
returns-clause-read g c t was =
    grown (g.D.Disk.seen c.args.disk.now.inner) c.args.bytes.now.items c.read_at.new.buf c.extend_from_slice.new.self.items _ c.len-from.result c.in_ok-extend_from_slice.ensures.items was
    (omega (arith, c.args.bytes.now.ok)) (c.in_ok-read_at.ensures.bytes t)
