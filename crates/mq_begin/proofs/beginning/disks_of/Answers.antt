use Rattle.std.proofs.Common.{arith}
use Rattle.mq_manager.specs.from_core.Values.{CoreValue}
use Rattle.mq_begin.proofs.BeganLaws.{counts_on}
use Rattle.mq_begin.proofs.beginning.disks_of.Goals as goal

pub loop-manager-preserved : goal.loop-manager-preserved
loop-manager-preserved g c = record {
  counts = counts_on g.D.Disk.faults (λ (x : CoreValue). x.faults) c.loop-manager.disks.items c.with_disk-disks.result.items c.loop-manager.left.items c.pop.new.self.items c.disk_of.result c.in-Some.manager _ c.with_disk-disks.ensures.items c.disk_of.ensures c.in-Some.ensures.items c.loop-manager.invariant.counts;
  room = omega (arith, c.with_disk-disks.ensures.len, c.with_disk-disks.ensures.capacity, c.in-Some.ensures.cases, c.loop-manager.invariant.room);
}
