use Rattle.mq_scn_lines.specs.declared.fault.LineFault.TheVariants as faults
use Rattle.mq_scn_lines.specs.Operands.{name_or_blank_in}
use Rattle.mq_scn_grammar.specs.Faults.{IsMissed}
use Rattle.mq_scn_grammar.proofs.Told.{value_found, value_read, missed_found, missed_read}
use Rattle.mq_scn_grammar.proofs.Operands.{NamesOf, name_or_blank_tells}
use Rattle.mq_scn_grammar.proofs.laws.names_or_blanks_are_read_where_they_stand.Goals as goal

pub returns : goal.returns
returns c =
    record {
      found = λ word name e. value_found (NamesOf word) (IsMissed faults.Name (NamesOf word)) (name_or_blank_in word) name (name_or_blank_tells word) e;
      read = λ word name h. value_read (NamesOf word) (IsMissed faults.Name (NamesOf word)) (name_or_blank_in word) name (name_or_blank_tells word) h;
      refused = λ word fault e. missed_found faults.Name (NamesOf word) (name_or_blank_in word) fault (name_or_blank_tells word) e;
      missed = λ word fault h. missed_read faults.Name (NamesOf word) (name_or_blank_in word) fault (name_or_blank_tells word) h;
    }
