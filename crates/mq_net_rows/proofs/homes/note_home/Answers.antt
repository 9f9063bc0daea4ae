use Rattle.mq_net_rows.proofs.homes.note_home.Goals as goal

pub returns-in-Ok-clause-home : goal.returns-in-Ok-clause-home
returns-in-Ok-clause-home c = c.in-Ok.ensures.updates.0
