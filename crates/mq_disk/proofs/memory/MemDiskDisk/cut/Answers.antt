use Rattle.std.proofs.Common.{◌∙◌, ap, take}
use Rattle.mq_disk.specs.Disk.{Cut}
use Rattle.mq_disk.specs.Memory.{TwinState, DiskState}
use Rattle.mq_disk.proofs.Overwritten.{cut_follows, lost_cut_follows, same_follows, cut_same}
use Rattle.mq_disk.proofs.memory.MemDiskDisk.cut.Goals as goal

pub returns-then-is_failing-clause-crash : goal.returns-then-is_failing-clause-crash
returns-then-is_failing-clause-crash c =
    same_follows (Cut c.args.len) c.args.self.now.left c.args.self.now.seen _ _ (cut_same c.args.len)
    (ap (λ (m : DiskState). m.left) c.self.view_is) (ap (λ (m : DiskState). m.seen) c.self.view_is)

pub returns-in-Lost-clause-crash : goal.returns-in-Lost-clause-crash
returns-in-Lost-clause-crash c =
    let m = c.args.self.now in
    lost_cut_follows m.left m.seen c.args.len _ _ (ap (λ (w : TwinState). w.left) c.cut.ensures ∙ ap (λ (m : DiskState). m.left) c.self.view_is)
    (ap (λ (w : TwinState). w.seen) c.cut.ensures ∙ ap (λ (m : DiskState). take c.args.len m.seen) c.self.view_is)

pub returns-in-Kept-clause-crash : goal.returns-in-Kept-clause-crash
returns-in-Kept-clause-crash c =
    let m = c.args.self.now in
    cut_follows m.left m.seen c.args.len _ _
    (ap (λ (w : TwinState). w.left) c.cut_left.ensures ∙ ap (λ (w : TwinState). take c.args.len w.left) c.cut.ensures ∙ ap (λ (m : DiskState). take c.args.len m.left) c.self.view_is)
    (ap (λ (w : TwinState). w.seen) c.cut_left.ensures ∙ ap (λ (w : TwinState). w.seen) c.cut.ensures ∙ ap (λ (m : DiskState). take c.args.len m.seen) c.self.view_is)
