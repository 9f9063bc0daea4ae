use Rattle.std.proofs.Common.{sym, ap, ◌∙◌}
use Rattle.std.specs.Prelude.{not}
use Rattle.std.specs.List.{list_any}
use Rattle.mq_queue.specs.declared.row.Row.{Row}
use Rattle.mq_queue.specs.Rows.{is_free}
use Rattle.mq_place.specs.Slots.{rows_of_slot}
use Rattle.mq_place.proofs.StateLaws.{rows_found}
use Rattle.mq_place.proofs.queues.Queues.has_held.Goals as goal

pub returns-in-None : goal.returns-in-None
returns-in-None g c = sym (ap (list_any (λ (row : Row). not (is_free row))) (rows_found c.args.name.now c.args.self.now.states ∙ ap rows_of_slot (sym c.in-None.ensures.value)))

pub returns-in-Some : goal.returns-in-Some
returns-in-Some g c = c.has_held.ensures ∙ sym (ap (list_any (λ (row : Row). not (is_free row))) (rows_found c.args.name.now c.args.self.now.states ∙ ap rows_of_slot (sym c.in-Some.ensures.value)))
