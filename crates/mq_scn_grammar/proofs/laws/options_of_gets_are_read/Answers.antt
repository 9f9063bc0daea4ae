use Rattle.mq_scn_script.specs.Options.{get_options}
use Rattle.mq_scn_grammar.specs.LineOptions.{AreGetOptions, HasGetFault}
use Rattle.mq_scn_grammar.proofs.Told.{value_found, value_read, fault_found, fault_read}
use Rattle.mq_scn_grammar.proofs.Gets.{get_tells}
use Rattle.mq_scn_grammar.proofs.laws.options_of_gets_are_read.Goals as goal

pub returns : goal.returns
returns c =
    record {
      found = λ words options e. value_found (AreGetOptions words) (HasGetFault words) (get_options words) options (get_tells words) e;
      read = λ words options h. value_read (AreGetOptions words) (HasGetFault words) (get_options words) options (get_tells words) h;
      refused = λ words fault e. fault_found (AreGetOptions words) (HasGetFault words) (get_options words) fault (get_tells words) e;
      missed = λ words fault h. fault_read (AreGetOptions words) (HasGetFault words) (get_options words) fault (get_tells words) h;
    }
