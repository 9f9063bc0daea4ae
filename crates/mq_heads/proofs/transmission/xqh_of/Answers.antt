use Rattle.std.proofs.Common.{arith}
use Rattle.mq_heads.proofs.HeaderLaws.{xqh_read_exact}
use Rattle.mq_heads.proofs.transmission.xqh_of.Goals as goal

pub returns-clause-exact : goal.returns-clause-exact
returns-clause-exact c =
    rw c.read_xqh.ensures (xqh_read_exact c.args.bytes.now (λ i. let byte = c.type_inv.bytes i in omega arith))
