use Rattle.mq_scn_parts.proofs.PartLines.{part_refused, part_is_refused}
use Rattle.mq_scn_parts.proofs.laws.a_part_fault_is_told.Goals as goal

pub returns : goal.returns
returns c = record { found = λ number line r fault e. part_refused number line r fault e; read = λ number line r f h. part_is_refused number line r f h }
