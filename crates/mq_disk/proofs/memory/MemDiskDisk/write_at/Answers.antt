use Rattle.std.proofs.Common.{◌≤◌, ◌∙◌, arith, ap, length, length-take, take}
use Rattle.mq_disk.specs.Disk.{Torn, overwritten}
use Rattle.mq_disk.specs.Memory.{TwinState, DiskState, after_part}
use Rattle.mq_disk.proofs.Overwritten.{write_follows, same_follows, torn_same}
use Rattle.mq_disk.proofs.memory.MemDiskDisk.write_at.Goals as goal

pub returns-then-is_failing-clause-crash : goal.returns-then-is_failing-clause-crash
returns-then-is_failing-clause-crash c =
    let n = length c.args.bytes.now in
    same_follows (Torn c.args.place n) c.args.self.now.left c.args.self.now.seen _ _ (torn_same c.args.place n)
    (ap (λ (m : DiskState). m.left) c.self.view_is) (ap (λ (m : DiskState). m.seen) c.self.view_is)

pub returns-clause-crash : goal.returns-clause-crash
returns-clause-crash c =
    let m = c.args.self.now in
    let bytes = c.args.bytes.now in
    let kept = c.kept_of-kept.result in
    let few : length (take kept bytes) ≤ length bytes = omega (arith, length-take kept bytes) in
    write_follows m.left m.seen c.args.place bytes (take kept bytes) _ _ c.requires few
    (ap (λ (w : TwinState). w.left) c.write.ensures ∙ ap (λ (m : DiskState). after_part m.left c.args.place (take kept bytes)) c.self.view_is)
    (ap (λ (w : TwinState). w.seen) c.write.ensures ∙ ap (λ (m : DiskState). overwritten m.seen c.args.place bytes) c.self.view_is)
