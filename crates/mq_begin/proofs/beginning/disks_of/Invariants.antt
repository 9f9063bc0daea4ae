use Rattle.std.proofs.Common.{◌≡◌, ◌<◌, ◌+◌}
use Rattle.std.specs.Prelude.{◌++◌, map, reverse, length, vec_len, vec_capacity}
use Rattle.mq_manager.specs.from_core.Values.{CoreValue}
use Rattle.mq_begin.proofs.beginning.disks_of.Given as goal

abbrev pub invariant-loop-manager : goal.invariant-loop-manager
invariant-loop-manager g l = record {
  counts : map g.D.Disk.faults l.disks.items ++ map (λ (c : CoreValue). c.faults) (reverse l.left.items) ≡ map (λ (c : CoreValue). c.faults) l.fn.managers.items;
  room : vec_len l.disks + vec_len l.left < vec_capacity l.disks;
}

abbrev pub decreases-loop-manager : goal.decreases-loop-manager
decreases-loop-manager g l = length l.left.items
