use Rattle.mq_net_rows.proofs.QueueLaws.{popped_sorted}
use Rattle.mq_net_rows.proofs.shelves.Shelves.from_shelves.Goals as goal

pub add_shelf-requires : goal.add_shelf-requires
add_shelf-requires c = popped_sorted c.placing.out c.placing.left.items c.pop.new.self.items c.args.shelves c.in-Some.shelf c.in-Some.ensures.items c.placing.invariant c.requires
