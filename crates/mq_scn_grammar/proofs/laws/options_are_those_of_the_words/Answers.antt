use Rattle.mq_scn_grammar.proofs.Options.{are_decides, says_decides}
use Rattle.mq_scn_grammar.proofs.laws.options_are_those_of_the_words.Goals as goal

pub returns : goal.returns
returns c =
    record {
      found = λ allowed words e. (are_decides allowed words).0 e;
      read = λ allowed words h. (are_decides allowed words).1 h;
      says_found = λ option words e. (says_decides option words).0 e;
      says_read = λ option words h. (says_decides option words).1 h;
    }
