use Rattle.mq_sc_grammar.proofs.Readings.{command_read, command_found}
use Rattle.mq_sc_grammar.proofs.laws.a_command_is_read_where_it_is_written.Goals as goal

pub returns : goal.returns
returns c = record { found = λ line command e. command_found line command e; read = λ line command h. command_read line command h }
