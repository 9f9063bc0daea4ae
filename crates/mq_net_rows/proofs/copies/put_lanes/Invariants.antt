use Rattle.std.proofs.Common.{◌≡◌, ◌++◌, drop}
use Rattle.mq_net_rows.specs.Stored.{lanes_rows}
use Rattle.mq_net_rows.proofs.copies.put_lanes.Given as goal

abbrev pub invariant-lanes : goal.invariant-lanes
invariant-lanes l = l.out ++ lanes_rows l.store (drop l.lane-index l.lanes) ≡ l.fn.out ++ lanes_rows l.store l.fn.lanes
