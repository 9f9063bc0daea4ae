use Rattle.mq_scn_script.specs.Options.{open_options}
use Rattle.mq_scn_grammar.specs.LineOptions.{AreOpenOptions, HasOpenFault}
use Rattle.mq_scn_grammar.proofs.Told.{value_found, value_read, fault_found, fault_read}
use Rattle.mq_scn_grammar.proofs.LineOptions.{open_tells}
use Rattle.mq_scn_grammar.proofs.laws.options_of_opens_are_read.Goals as goal

pub returns : goal.returns
returns c =
    record {
      found = λ words options e. value_found (AreOpenOptions words) (HasOpenFault words) (open_options words) options (open_tells words) e;
      read = λ words options h. value_read (AreOpenOptions words) (HasOpenFault words) (open_options words) options (open_tells words) h;
      refused = λ words fault e. fault_found (AreOpenOptions words) (HasOpenFault words) (open_options words) fault (open_tells words) e;
      missed = λ words fault h. fault_read (AreOpenOptions words) (HasOpenFault words) (open_options words) fault (open_tells words) h;
    }
