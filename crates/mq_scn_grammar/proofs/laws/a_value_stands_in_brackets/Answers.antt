use Rattle.mq_scn_grammar.proofs.Operands.{bracketed_found, bracketed_read}
use Rattle.mq_scn_grammar.proofs.laws.a_value_stands_in_brackets.Goals as goal

pub returns : goal.returns
returns c = record { found = λ keyword value word e. bracketed_found keyword value word e; read = λ keyword value word h. bracketed_read keyword value word h }
