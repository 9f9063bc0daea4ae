use Rattle.std.proofs.Common.{arith}
use Rattle.mq_heads.proofs.HeaderLaws.{dlh_read_exact}
use Rattle.mq_heads.proofs.dead_letter.dlh_of.Goals as goal

pub returns-clause-exact : goal.returns-clause-exact
returns-clause-exact c =
    rw c.read_dlh.ensures (dlh_read_exact c.args.bytes.now (λ i. let byte = c.type_inv.bytes i in omega arith))
