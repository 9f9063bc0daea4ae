use Rattle.std.proofs.Common.{◌≡◌, ◌<◌}
use Rattle.std.specs.Prelude.{reverse, length}
use Rattle.mq_spec_network.specs.Ledger.{change_at}
use Rattle.mq_net_rows.specs.Stored.{put_rows}
use Rattle.mq_net_rows.proofs.shelves.Shelves.add_rows.Given as goal

abbrev pub invariant-placing : goal.invariant-placing
invariant-placing l = (l.at < length l.self) × (change_at l.at (put_rows (reverse l.left.items)) l.self ≡ change_at l.at (put_rows l.fn.rows) l.fn.self)

abbrev pub decreases-placing : goal.decreases-placing
decreases-placing l = length l.left.items
