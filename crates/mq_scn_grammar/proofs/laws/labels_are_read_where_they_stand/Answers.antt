use Rattle.mq_scn_lines.specs.declared.fault.LineFault.TheVariants as faults
use Rattle.mq_scn_lines.specs.Operands.{label_in}
use Rattle.mq_scn_grammar.specs.Faults.{IsMissed}
use Rattle.mq_scn_grammar.proofs.Told.{value_found, value_read, missed_found, missed_read}
use Rattle.mq_scn_grammar.proofs.Operands.{LabelsOf, label_tells}
use Rattle.mq_scn_grammar.proofs.laws.labels_are_read_where_they_stand.Goals as goal

pub returns : goal.returns
returns c =
    record {
      found = λ word label e. value_found (LabelsOf word) (IsMissed faults.Name (LabelsOf word)) (label_in word) label (label_tells word) e;
      read = λ word label h. value_read (LabelsOf word) (IsMissed faults.Name (LabelsOf word)) (label_in word) label (label_tells word) h;
      refused = λ word fault e. missed_found faults.Name (LabelsOf word) (label_in word) fault (label_tells word) e;
      missed = λ word fault h. missed_read faults.Name (LabelsOf word) (label_in word) fault (label_tells word) h;
    }
