use Rattle.mq_scn_grammar.proofs.OneCommand.{command_is, command_found, refusal_is, refusal_found}
use Rattle.mq_scn_grammar.proofs.laws.one_command_is_read_where_it_stands.Goals as goal

pub returns : goal.returns
returns c = record { found = λ text command e. command_found text command e; read = λ text command h. command_is text command h; refused = λ text fault e. refusal_found text fault e; missed = λ text fault h. refusal_is text fault h }
