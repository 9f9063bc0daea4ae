use Rattle.mq_cable.specs.Faults.{spoiled}
use Rattle.mq_cable.proofs.MadeLaws.{one_more}
use Rattle.mq_cable.proofs.laws.one_more_offer_adds_its_own.Goals as goal

pub returns : goal.returns
returns c = one_more spoiled
