use Rattle.std.proofs.Common.{sym, ap, ◌∙◌}
use Rattle.std.specs.Prelude.{nat_lt, not}
use Rattle.std.specs.List.{list_any}
use Rattle.mq_queue.specs.declared.row.Row.{Row}
use Rattle.mq_queue.specs.Rows.{is_free}
use Rattle.mq_queue.proofs.CountLaws.{held_are_more}
use Rattle.mq_place.specs.States.{QueueState}
use Rattle.mq_place.proofs.local.LocalRows.has_held.Goals as goal

pub returns : goal.returns
returns g c =
    let free = c.free.ensures in
    let all = c.len.ensures in
    (λ i. nat_lt (free i) (all i)) ∙ sym (held_are_more (g.Q.Queue.rows c.self.inside.queue))
    ∙ ap (λ (s : QueueState). list_any (λ (row : Row). not (is_free row)) s.queue.rows) c.self.view_is
