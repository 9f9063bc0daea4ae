use Rattle.mq_scn_lines.specs.declared.fault.LineFault.TheVariants as faults
use Rattle.mq_scn_lines.specs.Texts.{field_in}
use Rattle.mq_scn_grammar.specs.Faults.{IsMissed}
use Rattle.mq_scn_grammar.proofs.Told.{value_found, value_read, missed_found, missed_read}
use Rattle.mq_scn_grammar.proofs.Operands.{FieldsOf, field_tells}
use Rattle.mq_scn_grammar.proofs.laws.fields_are_read_where_they_stand.Goals as goal

pub returns : goal.returns
returns c =
    record {
      found = λ width pad word field e. value_found (FieldsOf width pad word) (IsMissed faults.Form (FieldsOf width pad word)) (field_in width pad word) field (field_tells width pad word) e;
      read = λ width pad word field h. value_read (FieldsOf width pad word) (IsMissed faults.Form (FieldsOf width pad word)) (field_in width pad word) field (field_tells width pad word) h;
      refused = λ width pad word fault e. missed_found faults.Form (FieldsOf width pad word) (field_in width pad word) fault (field_tells width pad word) e;
      missed = λ width pad word fault h. missed_read faults.Form (FieldsOf width pad word) (field_in width pad word) fault (field_tells width pad word) h;
    }
