use Rattle.std.proofs.Common.{sym, ◌∙◌}
use Rattle.mq_queue.specs.Rows.{is_free}
use Rattle.mq_shelves.proofs.rows.Rows.stands_on.Goals as goal

pub returns-in-None : goal.returns-in-None
returns-in-None c = sym (c.in-None.ensures.any (λ n row. is_free row))

pub returns-in-Some : goal.returns-in-Some
returns-in-Some c = c.is_free.ensures ∙ sym (c.in-Some.ensures.any (λ n row. is_free row))
