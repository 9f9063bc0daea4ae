use Rattle.std.proofs.Common.{sym, ◌∙◌}
use Rattle.mq_net_rows.proofs.QueueLaws.{ok_then, message_last, message_there}
use Rattle.mq_net_rows.proofs.shelves.Shelves.put_in.Goals as goal

pub returns-in_ok-add_queue-in-None : goal.returns-in_ok-add_queue-in-None
returns-in_ok-add_queue-in-None c = ok_then c.add_row.result c.add_row.ensures (λ e.
    message_last c.self.inside.store c.self.inside.queues c.args.self.now c.add_queue.new.self c.add_row.new.self c.len-at.result c.args.lane c.args.name.now c.args.message c.new_row.result
    c.self.view_is c.len-at.ensures c.in_ok-add_queue-in-None.ensures c.new_row.ensures (sym c.place_of.ensures.value ∙ c.in-None.is) e)

pub returns-in-Some : goal.returns-in-Some
returns-in-Some c = ok_then c.add_row-in-Some.result c.add_row-in-Some.ensures (λ e.
    message_there c.args.self.now c.add_row-in-Some.new.self c.in-Some.at c.args.lane c.args.name.now c.args.message c.new_row-in-Some.result c.new_row-in-Some.ensures (sym c.place_of.ensures.value ∙ c.in-Some.is) e)
