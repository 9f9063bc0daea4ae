use Rattle.std.proofs.Common.{◌∙◌, arith}
use Rattle.mq_queue.proofs.PlaceLaws.{first_from}
use Rattle.mq_queue.proofs.places.first_takable.Goals as goal

pub returns : goal.returns
returns c =
    c.row_from.ensures ∙ first_from c.args.want.now c.args.after c.args.rows.now.items c.start_after.result c.start_after.ensures.place (omega (arith, c.start_after.ensures.within, c.args.rows.now.ok.0))
