use Rattle.std.proofs.Common.{Bool, sym, ap, ◌∙◌}
use Rattle.std.specs.Prelude.{◌&&◌}
use Rattle.mq_queue.specs.Rows.{is_free}
use Rattle.mq_shelves.proofs.rows.Rows.stands_at.Goals as goal

pub returns-in-None-clause-at : goal.returns-in-None-clause-at
returns-in-None-clause-at c = sym (c.in-None.ensures.on is_free c.args.queue.now)

pub returns-then-is_name-clause-at : goal.returns-then-is_name-clause-at
returns-then-is_name-clause-at c =
    c.is_free.ensures ∙ ap (λ (b : Bool). b && is_free c.in-Some.found.row.now) (sym (sym c.is_name.ensures ∙ c.if-is_name.true)) ∙ sym (c.in-Some.ensures.on is_free c.args.queue.now)

pub returns-else-is_name-clause-at : goal.returns-else-is_name-clause-at
returns-else-is_name-clause-at c =
    ap (λ (b : Bool). b && is_free c.in-Some.found.row.now) (sym (sym c.is_name.ensures ∙ c.if-is_name.false)) ∙ sym (c.in-Some.ensures.on is_free c.args.queue.now)
