use Rattle.mq_scn_grammar.proofs.Script.{either_line, never_both, one_fault}
use Rattle.mq_scn_grammar.proofs.laws.a_text_is_a_script_line_or_has_a_fault.Goals as goal

pub returns : goal.returns
returns c =
    record {
      either = λ left text. either_line left text;
      never_both = λ left text line fault p q. never_both left text line fault p q;
      one_fault = λ left text fault other p q. one_fault left text fault other p q;
    }
