use Rattle.std.proofs.Common.{arith, sym}
use Rattle.mq_log.proofs.Scanned.{number_read}
use Rattle.mq_log.proofs.scan.body_length.Goals as goal

pub returns-clause-value : goal.returns-clause-value
returns-clause-value c =
    let read = number_read c.args.bytes.now c.args.gate c.from_be_bytes.result (omega arith) (λ i. omega (arith, c.type_inv.bytes i)) c.from_be_bytes.ensures in
    sym read.1

pub returns-clause-same : goal.returns-clause-same
returns-clause-same c =
    let read = number_read c.args.bytes.now c.args.gate c.from_be_bytes.result (omega arith) (λ i. omega (arith, c.type_inv.bytes i)) c.from_be_bytes.ensures in
    read.0
