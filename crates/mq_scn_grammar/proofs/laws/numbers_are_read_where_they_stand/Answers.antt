use Rattle.mq_scn_lines.specs.Numbers.{ranged}
use Rattle.mq_scn_grammar.specs.Operands.{HasNumberFault}
use Rattle.mq_scn_grammar.proofs.Told.{plain_of, value_found, value_read, fault_found, fault_read}
use Rattle.mq_scn_grammar.proofs.Numbers.{NumbersOf, ranged_tells, number_told}
use Rattle.mq_scn_grammar.proofs.laws.numbers_are_read_where_they_stand.Goals as goal

pub returns : goal.returns
returns c =
    record {
      found = λ beyond low high n text lt e. value_found (NumbersOf low high text) (HasNumberFault beyond (NumbersOf low high text) text) (ranged beyond low high text) n (ranged_tells beyond (plain_of beyond lt) low high text) e;
      read = λ beyond low high n text lt h. value_read (NumbersOf low high text) (HasNumberFault beyond (NumbersOf low high text) text) (ranged beyond low high text) n (ranged_tells beyond (plain_of beyond lt) low high text) h;
      refused = λ beyond fault low high text lt e. (fault_found (NumbersOf low high text) (HasNumberFault beyond (NumbersOf low high text) text) (ranged beyond low high text) fault (ranged_tells beyond (plain_of beyond lt) low high text) e).0;
      missed = λ beyond fault low high text lt h. fault_read (NumbersOf low high text) (HasNumberFault beyond (NumbersOf low high text) text) (ranged beyond low high text) fault (ranged_tells beyond (plain_of beyond lt) low high text) (number_told (NumbersOf low high text) beyond text fault h);
    }
