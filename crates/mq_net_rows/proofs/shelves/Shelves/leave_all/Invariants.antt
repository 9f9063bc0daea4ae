use Rattle.std.proofs.Common.{◌≡◌, drop}
use Rattle.mq_net_rows.specs.Stored.{leave_each}
use Rattle.mq_net_rows.proofs.shelves.Shelves.leave_all.Given as goal

abbrev pub invariant-loop-at : goal.invariant-loop-at
invariant-loop-at l = leave_each (drop l.at l.idents) l.self ≡ leave_each l.fn.idents l.fn.self
