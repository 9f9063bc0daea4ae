use Rattle.mq_shared.specs.Held.{cables_begun}
use Rattle.mq_shared.specs.Taking.{since_of}
use Rattle.mq_shared.proofs.phasing.run_in.Given as goal

abbrev pub ghost-part_cables : goal.ghost-part_cables
ghost-part_cables g a = cables_begun g.P.PhaseName.begun

abbrev pub ghost-take_all : goal.ghost-take_all
ghost-take_all g a = g.q

abbrev pub ghost-join_back : goal.ghost-join_back
ghost-join_back g a = record { begun = cables_begun g.P.PhaseName.begun; since = since_of g.P.PhaseName.begun a.nodes.now }
