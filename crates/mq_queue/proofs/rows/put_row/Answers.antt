use Rattle.std.proofs.Common.{◌∙◌, arith}
use Rattle.mq_queue.proofs.EndLaws.{placed_at_end}
use Rattle.mq_queue.proofs.rows.put_row.Goals as goal

pub returns-clause-rows : goal.returns-clause-rows
returns-clause-rows c =
    c.in-Ok.ensures.items ∙ placed_at_end c.args.rows.now.items c.args.row c.end_of_lane-at.result (omega (arith, c.end_of_lane-at.ensures.within, c.args.rows.now.ok.0)) c.end_of_lane-at.ensures.place
