use Rattle.mq_begin.proofs.BeganLaws.{counts_all}
use Rattle.mq_begin.proofs.beginning.hand_back.Goals as goal

pub returns-clause-counts : goal.returns-clause-counts
returns-clause-counts g c = counts_all g.D.Disk.faults c.disks_of.result.items c.with_own-disks.result.items c.args.refused.disk _ c.with_own-disks.ensures c.disks_of.ensures.faults
