use Rattle.mq_place.proofs.homes.note_home.Goals as goal

pub returns-clause-home : goal.returns-clause-home
returns-clause-home c = let updates = rw c.unwrap-before.ensures at c.insert.ensures.updates in updates.0
