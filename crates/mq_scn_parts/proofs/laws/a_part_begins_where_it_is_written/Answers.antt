use Rattle.mq_scn_parts.proofs.PartLines.{part_found, part_is_read}
use Rattle.mq_scn_parts.proofs.laws.a_part_begins_where_it_is_written.Goals as goal

pub returns : goal.returns
returns c = record { found = λ number line r t e. part_found number line r t e; read = λ number line r p h. part_is_read number line r p h }
