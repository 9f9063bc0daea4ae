use Rattle.mq_cable.proofs.MadeLaws.{all_pushed}
use Rattle.mq_cable.proofs.laws.without_faults_all_is_pushed.Goals as goal

pub returns : goal.returns
returns c = all_pushed
