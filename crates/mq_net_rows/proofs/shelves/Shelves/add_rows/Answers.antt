use Rattle.std.proofs.Common.{◌<◌, arith, ap, length, List}
use Rattle.mq_calls.specs.declared.image.Shelf.{Shelf}
use Rattle.mq_spec_network.specs.Ledger.{change_at}
use Rattle.mq_net_rows.specs.Stored.{put_row, put_rows}
use Rattle.mq_net_rows.proofs.QueueLaws.{rows_on, changed_long}
use Rattle.mq_net_rows.proofs.shelves.Shelves.add_rows.Goals as goal

pub placing-preserved : goal.placing-preserved
placing-preserved c =
    let long : c.args.at < length c.add_row.new.self = omega (arith, c.placing.invariant.0, ap (λ (ss : List Shelf). length ss) c.in_ok-add_row.ensures, changed_long (put_row c.in-Some.row) c.args.at c.placing.self) in
    (long, rows_on c.args.at c.placing.left.items c.pop.new.self.items c.in-Some.row c.placing.self c.add_row.new.self (change_at c.args.at (put_rows c.args.rows) c.args.self.now) c.in-Some.ensures.items c.in_ok-add_row.ensures c.placing.invariant.1)
