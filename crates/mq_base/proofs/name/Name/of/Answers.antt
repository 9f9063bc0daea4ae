use Rattle.std.proofs.Common.{arith, sym}
use Rattle.mq_base.specs.Name.{is_name_byte}
use Rattle.mq_base.proofs.Fields.{holds_padded, no_bad}
use Rattle.mq_base.proofs.name.Name.of.Goals as goal

pub invariant_of-result : goal.invariant_of-result
invariant_of-result g c = holds_padded is_name_byte g.row.N c.args.text.now c.field_of.result (omega arith) (no_bad c.args.text.now (sym c.in-None.ensures)) c.field_of.ensures
