use Rattle.mq_scn_script.specs.Options.{put_options}
use Rattle.mq_scn_grammar.specs.LineOptions.{ArePutOptions, HasPutFault}
use Rattle.mq_scn_grammar.proofs.Told.{value_found, value_read, fault_found, fault_read}
use Rattle.mq_scn_grammar.proofs.Puts.{put_tells}
use Rattle.mq_scn_grammar.proofs.laws.options_of_puts_are_read.Goals as goal

pub returns : goal.returns
returns c =
    record {
      found = λ words options e. value_found (ArePutOptions words) (HasPutFault words) (put_options words) options (put_tells words) e;
      read = λ words options h. value_read (ArePutOptions words) (HasPutFault words) (put_options words) options (put_tells words) h;
      refused = λ words fault e. fault_found (ArePutOptions words) (HasPutFault words) (put_options words) fault (put_tells words) e;
      missed = λ words fault h. fault_read (ArePutOptions words) (HasPutFault words) (put_options words) fault (put_tells words) h;
    }
