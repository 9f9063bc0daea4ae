use Rattle.std.proofs.Common.{sym, ◌∙◌, arith}
use Rattle.mq_frame.proofs.DescriptorCode.{md_code, ok_no_err, md_at_is}
use Rattle.mq_frame.proofs.reading.md_at.Goals as goal

pub unreachable-requires : goal.unreachable-requires
unreachable-requires c =
    let read = md_code c.args.bytes.now c.in_ok-fields.fields.now c.in_ok-rest.field-0-0.now c.in_ok-rest.rest.now (λ i. omega (arith, c.type_inv.bytes i)) c.in_ok-fields.ensures c.in_ok-rest.ensures in
    ok_no_err _ _ _ read (sym c.md_of.ensures.value ∙ c.in-Err.is)

pub returns : goal.returns
returns c = md_at_is c.args.bytes.now c.in_ok-fields.fields.now c.in_ok-rest.field-0-0.now c.in_ok-rest.rest.now c.in-Ok.md (λ i. omega (arith, c.type_inv.bytes i)) c.in_ok-fields.ensures c.in_ok-rest.ensures (sym c.md_of.ensures.value ∙ c.in-Ok.is)
