use Rattle.std.proofs.Common.{arith, length, length-take, ap}
use Rattle.mq_disk.specs.Memory.{TwinState}
use Rattle.mq_disk.proofs.Overwritten.{write_keeps}
use Rattle.mq_disk.proofs.twin.Twin.write.Goals as goal

pub invariant_of-self : goal.invariant_of-self
invariant_of-self c =
    write_keeps _ _ _ _ _ _ c.self.invariant c.args.place c.args.piece.now _ _ _ _ _ c.min-self-inside.result
    (omega (arith, ap (λ (v : TwinState). length v.seen) c.self.view_is))
    (omega (arith, ap (λ (v : TwinState). v.room) c.self.view_is))
    (omega (arith, ap length c.split_at.ensures.front, length-take c.args.kept c.args.piece.now))
    c.write_over.ensures.items c.write_within.ensures.items c.min-self-inside.ensures (omega arith) (omega arith)
