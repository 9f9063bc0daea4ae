use Rattle.mq_scn_grammar.proofs.Options.{value_found, value_read, none_found, none_read}
use Rattle.mq_scn_grammar.proofs.laws.an_option_has_the_value_that_its_word_gives.Goals as goal

pub returns : goal.returns
returns c =
    record {
      found = λ option value words e. value_found option value words e;
      read = λ allowed words option value are has h. value_read allowed words option value has are h;
      none_found = λ option value words e h. none_found option value words e h;
      none_read = λ option words never. none_read option words never;
    }
