use Rattle.std.proofs.Common.{◌≡◌, ◌-◌, ◌<◌, ◌≤◌, length, take, false}
use Rattle.mq_disk.specs.Disk.{NothingNew}
use Rattle.mq_log.specs.Open.{Front}
use Rattle.mq_log.proofs.open.read_log.Given as goal

abbrev pub invariant-reading : goal.invariant-reading
invariant-reading g l = record {
  front : Front l.at l.bytes.items;
  at : l.at ≤ length l.bytes.items;
  left : length l.bytes.items < l.size;
  read : g.D.Disk.tells → l.bytes.items ≡ take (length l.bytes.items) (g.D.Disk.seen l.disk.inner);
  size : l.size ≡ g.D.Disk.size l.disk.inner;
  passes : l.disk.stopped ≡ false;
  armed : l.disk.armed ≡ l.fn.disk.armed;
  seen : g.D.Disk.tells → g.D.Disk.seen l.disk.inner ≡ g.D.Disk.seen l.fn.disk.inner;
  crash : g.D.Disk.tells → NothingNew (g.D.Disk.may_leave l.fn.disk.inner) (g.D.Disk.may_leave l.disk.inner);
  later : g.D.Disk.faults l.fn.disk.inner ≤ g.D.Disk.faults l.disk.inner;
}

abbrev pub decreases-reading : goal.decreases-reading
decreases-reading g l = l.size - length l.bytes.items
