use Rattle.std.proofs.Common.{sym, ◌∙◌}
use Rattle.mq_redo.proofs.ArrivalLaws.{is_added}
use Rattle.mq_redo.proofs.arrivals.is_added.Goals as goal

pub returns : goal.returns
returns c = c.any_adds.ensures ∙ sym (is_added c.args.ident.now c.args.landed.now)
