use Rattle.mq_scn_grammar.proofs.Words.{words_found, words_read, one_way}
use Rattle.mq_scn_grammar.proofs.laws.words_are_those_of_the_text.Goals as goal

pub returns : goal.returns
returns c =
    record {
      found = λ text words e f. words_found text words e f;
      read = λ text words h. words_read text words h;
      one_list = λ text words others p q. one_way text words others p q;
    }
