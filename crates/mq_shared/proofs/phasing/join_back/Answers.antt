use Rattle.mq_shared.proofs.phasing.join_back.Goals as goal

pub returns-clause-joined : goal.returns-clause-joined
returns-clause-joined g c = c.join_cables.ensures.joined
