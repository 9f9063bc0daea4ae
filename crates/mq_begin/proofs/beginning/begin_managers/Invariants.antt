use Rattle.std.proofs.Common.{◌≡◌, ◌<◌, ◌≤◌}
use Rattle.std.specs.Prelude.{[], length, vec_len, vec_capacity}
use Rattle.mq_begin.proofs.BeganLaws.{Beginning}
use Rattle.mq_begin.proofs.beginning.begin_managers.Given as goal

abbrev pub invariant-loop-line : goal.invariant-loop-line
invariant-loop-line g l = record {
  on : Beginning g.H.D.Disk.tells (g.H.Shelf.holds l.initial.shelf) (g.H.Shelf.holds l.shelf) l.moment l.scenario.managers l.line-index l.managers.items (g.H.Shelf.faults l.initial.shelf) (g.H.Shelf.faults l.shelf);
  none : l.disks.items ≡ [];
  empty : vec_len l.disks ≡ 0;
  many : vec_len l.managers ≡ l.line-index;
  disks : length l.scenario.managers < vec_capacity l.disks;
  cores : length l.scenario.managers ≤ vec_capacity l.managers;
}
