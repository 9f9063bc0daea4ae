use Rattle.mq_shared.proofs.phasing.join_back.Given as goal

abbrev pub ghost-join_cables : goal.ghost-join_cables
ghost-join_cables g a = g.p
