use Rattle.mq_net_rows.proofs.QueueLaws.{ok_then, shelf_added}
use Rattle.mq_net_rows.proofs.shelves.Shelves.add_shelf.Goals as goal

pub returns : goal.returns
returns c = ok_then c.add_rows.result c.add_rows.ensures (λ e. shelf_added c.self.inside.store c.self.inside.queues c.args.self.now c.add_queue.new.self c.add_rows.new.self c.len-at.result c.args.shelf c.self.view_is c.len-at.ensures c.in_ok-add_queue.ensures c.requires e)
