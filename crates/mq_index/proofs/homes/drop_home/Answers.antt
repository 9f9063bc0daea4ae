use Rattle.mq_index.proofs.homes.drop_home.Goals as goal

pub returns-clause-dropped : goal.returns-clause-dropped
returns-clause-dropped c = c.remove-slot.ensures.updates.0
