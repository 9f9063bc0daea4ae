use Rattle.mq_sc_grammar.proofs.Whole.{text_either, never_both_of_text, one_text_fault}
use Rattle.mq_sc_grammar.proofs.laws.a_text_has_commands_or_a_fault.Goals as goal

pub returns : goal.returns
returns c =
    record {
      either = λ text. text_either text;
      never_both = λ text lines fault p q. never_both_of_text text lines fault p q;
      one_fault = λ text fault other p q. one_text_fault text fault other p q;
    }
