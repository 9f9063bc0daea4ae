use Rattle.std.proofs.Common.{ℕ, List}
use Rattle.mq_scn_lines.specs.declared.fault.LineFault.TheVariants as faults
use Rattle.mq_scn_lines.specs.Operands.{name_in}
use Rattle.mq_scn_grammar.specs.Operands.{IsNameWord}
use Rattle.mq_scn_grammar.proofs.Told.{missed_found, missed_read}
use Rattle.mq_scn_grammar.proofs.Operands.{name_found, name_read, name_tells}
use Rattle.mq_scn_grammar.proofs.laws.names_are_read_where_they_stand.Goals as goal

pub returns : goal.returns
returns c =
    record {
      found = λ width word name e. name_found width name word e;
      read = λ width word name h. name_read width name word h;
      refused = λ width word fault e. missed_found faults.Name (λ (name : List ℕ). IsNameWord width name word) (name_in width word) fault (name_tells width word) e;
      missed = λ width word fault h. missed_read faults.Name (λ (name : List ℕ). IsNameWord width name word) (name_in width word) fault (name_tells width word) h;
    }
