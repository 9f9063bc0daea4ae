use Rattle.std.proofs.Common.{arith}
use Rattle.mq_disk.proofs.Overwritten.{cut_keeps}
use Rattle.mq_disk.proofs.twin.Twin.cut.Goals as goal

pub invariant_of-self : goal.invariant_of-self
invariant_of-self c = cut_keeps _ _ _ _ _ _ c.self.invariant c.args.len _ _ _ c.truncate.ensures.items c.min-self-inside.ensures (omega arith)
