use Rattle.mq_scn_grammar.proofs.Firsts.{first_word_found, first_word_read, no_word_found, no_word_read}
use Rattle.mq_scn_grammar.proofs.laws.a_first_word_is_read_where_it_stands.Goals as goal

pub returns : goal.returns
returns c = record { found = λ text word rest e. first_word_found text word rest e; read = λ text word rest h. first_word_read text word rest h; none_found = λ text e. no_word_found text e; none_read = λ text h. no_word_read text h }
