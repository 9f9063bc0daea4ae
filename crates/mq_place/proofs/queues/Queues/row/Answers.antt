use Rattle.std.proofs.Common.{sym, ap, ◌∙◌}
use Rattle.std.specs.Prelude.{find}
use Rattle.mq_queue.specs.Rows.{has_ident}
use Rattle.mq_place.specs.Slots.{rows_of_slot}
use Rattle.mq_place.proofs.StateLaws.{rows_found}
use Rattle.mq_place.proofs.queues.Queues.row.Goals as goal

pub returns-in-None : goal.returns-in-None
returns-in-None g c = sym (ap (find (has_ident c.args.ident.now)) (rows_found c.args.name.now c.args.self.now.states ∙ ap rows_of_slot (sym c.in-None.ensures.value)))

pub returns-in-Some : goal.returns-in-Some
returns-in-Some g c = c.row.ensures ∙ sym (ap (find (has_ident c.args.ident.now)) (rows_found c.args.name.now c.args.self.now.states ∙ ap rows_of_slot (sym c.in-Some.ensures.value)))
