use Rattle.mq_scn_grammar.proofs.Script.{line_found, line_read, one_line}
use Rattle.mq_scn_grammar.proofs.laws.a_script_line_is_read_where_it_is_written.Goals as goal

pub returns : goal.returns
returns c = record { found = λ left text line e. line_found left text line e; read = λ left text line h. line_read left text line h; one_line = λ left text line other p q. one_line left text line other p q }
