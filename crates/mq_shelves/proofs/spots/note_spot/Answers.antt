use Rattle.mq_shelves.proofs.spots.note_spot.Goals as goal

pub returns-clause-ok : goal.returns-clause-ok
returns-clause-ok c = c.in_ok-insert.ensures.updates.0
