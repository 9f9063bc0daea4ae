use Rattle.mq_unit.proofs.UnitLaws.{unit_needs}
use Rattle.mq_unit.proofs.laws.a_unit_needs_its_record.Goals as goal

pub returns : goal.returns
returns c = unit_needs
