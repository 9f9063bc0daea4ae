use Rattle.mq_net_rows.proofs.homes.drop_home.Goals as goal

pub returns : goal.returns
returns c = c.swap_remove-slot.ensures.updates.0
