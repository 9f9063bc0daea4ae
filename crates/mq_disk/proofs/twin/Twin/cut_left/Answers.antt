use Rattle.std.proofs.Common.{arith}
use Rattle.mq_disk.proofs.Overwritten.{cut_keeps, flipped}
use Rattle.mq_disk.proofs.twin.Twin.cut_left.Goals as goal

pub invariant_of-self : goal.invariant_of-self
invariant_of-self c =
    flipped _ _ _ _ _ _ (cut_keeps _ _ _ _ _ _ (flipped _ _ _ _ _ _ c.self.invariant) c.args.len _ _ _ c.truncate.ensures.items c.min-self-inside.ensures (omega arith))
