use Rattle.mq_scn_lines.specs.Words.{is_open}
use Rattle.std.proofs.Common.{false, refl}
use Rattle.mq_scn_grammar.proofs.Words.{no_words, unclosed}
use Rattle.mq_scn_grammar.proofs.laws.a_quote_is_open_where_there_are_no_words.Goals as goal

pub returns : goal.returns
returns c = record { found = λ text e words h. no_words text e words h; read = λ text never. unclosed text (is_open false text) refl never }
