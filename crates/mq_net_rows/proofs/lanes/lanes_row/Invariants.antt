use Rattle.std.proofs.Common.{◌≡◌, drop}
use Rattle.mq_net_rows.specs.Stored.{lanes_find}
use Rattle.mq_net_rows.proofs.lanes.lanes_row.Given as goal

abbrev pub invariant-loop-lane : goal.invariant-loop-lane
invariant-loop-lane l = lanes_find l.ident l.store (drop l.lane-index l.lanes) ≡ lanes_find l.ident l.store l.fn.lanes
