use Rattle.mq_law_pump.proofs.Ways.{laid_last, refused_as, taken_first}
use Rattle.mq_law_pump.proofs.a_cable_without_faults_keeps_order.Goals as goal

pub returns-clause-offers : goal.returns-clause-offers
returns-clause-offers c = laid_last

pub returns-clause-pops : goal.returns-clause-pops
returns-clause-pops c = taken_first

pub returns-clause-refuses : goal.returns-clause-refuses
returns-clause-refuses c = refused_as
