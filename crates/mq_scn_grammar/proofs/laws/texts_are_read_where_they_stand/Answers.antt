use Rattle.mq_scn_lines.specs.declared.fault.LineFault.TheVariants as faults
use Rattle.mq_scn_lines.specs.Texts.{text_in}
use Rattle.mq_scn_grammar.specs.Faults.{IsMissed}
use Rattle.mq_scn_grammar.proofs.Told.{value_found, value_read, missed_found, missed_read}
use Rattle.mq_scn_grammar.proofs.Operands.{TextsOf, text_tells}
use Rattle.mq_scn_grammar.proofs.laws.texts_are_read_where_they_stand.Goals as goal

pub returns : goal.returns
returns c =
    record {
      found = λ word text e. value_found (TextsOf word) (IsMissed faults.Form (TextsOf word)) (text_in word) text (text_tells word) e;
      read = λ word text h. value_read (TextsOf word) (IsMissed faults.Form (TextsOf word)) (text_in word) text (text_tells word) h;
      refused = λ word fault e. missed_found faults.Form (TextsOf word) (text_in word) fault (text_tells word) e;
      missed = λ word fault h. missed_read faults.Form (TextsOf word) (text_in word) fault (text_tells word) h;
    }
