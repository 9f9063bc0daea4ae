use Rattle.std.proofs.Common.{sym, ap, ◌∙◌}
use Rattle.mq_queue.specs.Queues.{count_waiting}
use Rattle.mq_place.specs.Slots.{rows_of_slot}
use Rattle.mq_place.proofs.StateLaws.{rows_found}
use Rattle.mq_place.proofs.queues.Queues.free.Goals as goal

pub returns-in-None : goal.returns-in-None
returns-in-None g c = sym (ap (count_waiting c.args.least) (rows_found c.args.name.now c.args.self.now.states ∙ ap rows_of_slot (sym c.in-None.ensures.value)))

pub returns-in-Some : goal.returns-in-Some
returns-in-Some g c = c.free.ensures ∙ sym (ap (count_waiting c.args.least) (rows_found c.args.name.now c.args.self.now.states ∙ ap rows_of_slot (sym c.in-Some.ensures.value)))
