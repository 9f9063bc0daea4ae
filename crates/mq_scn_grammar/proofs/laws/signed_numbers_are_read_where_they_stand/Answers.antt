use Rattle.mq_scn_lines.specs.declared.fault.LineFault.TheVariants as faults
use Rattle.mq_scn_lines.specs.Numbers.{signed_number}
use Rattle.mq_scn_grammar.specs.Operands.{HasNumberFault}
use Rattle.mq_scn_grammar.proofs.Told.{value_found, value_read, fault_found, fault_read}
use Rattle.mq_scn_grammar.proofs.Numbers.{SignedOf, signed_tells, number_told}
use Rattle.mq_scn_grammar.proofs.laws.signed_numbers_are_read_where_they_stand.Goals as goal

pub returns : goal.returns
returns c =
    record {
      found = λ n text e. value_found (SignedOf text) (HasNumberFault faults.Number (SignedOf text) text) (signed_number text) n (signed_tells text) e;
      read = λ n text h. value_read (SignedOf text) (HasNumberFault faults.Number (SignedOf text) text) (signed_number text) n (signed_tells text) h;
      refused = λ fault text e. (fault_found (SignedOf text) (HasNumberFault faults.Number (SignedOf text) text) (signed_number text) fault (signed_tells text) e).0;
      missed = λ fault text h. fault_read (SignedOf text) (HasNumberFault faults.Number (SignedOf text) text) (signed_number text) fault (signed_tells text) (number_told (SignedOf text) faults.Number text fault h);
    }
