use Rattle.mq_sc_grammar.proofs.Faulted.{either_line, never_both, one_fault}
use Rattle.mq_sc_grammar.proofs.laws.a_line_is_a_command_or_has_a_fault.Goals as goal

pub returns : goal.returns
returns c =
    record {
      either = λ line. either_line line;
      never_both = λ line command fault p q. never_both line command fault p q;
      one_fault = λ line fault other p q. one_fault line fault other p q;
    }
