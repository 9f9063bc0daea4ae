use Rattle.mq_index.proofs.homes.reserve_homes.Goals as goal

pub returns-in-Ok-clause-same : goal.returns-in-Ok-clause-same
returns-in-Ok-clause-same c = c.reserve.ensures.entries.2
