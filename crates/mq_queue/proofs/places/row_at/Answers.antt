use Rattle.std.proofs.Common.{sym, ◌∙◌}
use Rattle.mq_queue.proofs.PlaceLaws.{past_all, found_at}
use Rattle.mq_queue.proofs.places.row_at.Goals as goal

pub returns-in-None : goal.returns-in-None
returns-in-None c = sym (past_all c.args.place c.args.rows.now.items c.start_at.result c.start_at.ensures.place (sym c.in-None.ensures))

pub returns-in-Some : goal.returns-in-Some
returns-in-Some c =
    c.at_place.ensures ∙ sym (found_at c.args.place c.args.rows.now.items c.start_at.result c.in-Some.row.now c.requires c.start_at.ensures.place (sym c.in-Some.ensures))
