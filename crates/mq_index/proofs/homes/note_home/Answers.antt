use Rattle.mq_index.proofs.homes.note_home.Goals as goal

pub returns-clause-noted : goal.returns-clause-noted
returns-clause-noted c = c.in-Ok.ensures.updates.0
