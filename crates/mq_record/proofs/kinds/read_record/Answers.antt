use Rattle.std.proofs.Common.{◌≡◌, subst, arith, ap, length}
use Rattle.std.proofs.lemmas.Grind.{common_steps}
use Rattle.std.proofs.lemmas.List.{nil_from_length}
use Rattle.mq_frame.specs.Reading.{Stops}
use Rattle.mq_record.specs.Reading.{record_at}
use Rattle.mq_record.proofs.BodyLaws.{is_body, is_longer, is_none}
use Rattle.mq_record.proofs.kinds.read_record.Goals as goal

pub returns-then-is_empty : goal.returns-then-is_empty
returns-then-is_empty c =
    let counted : length c.in-Ok.rest.now ≡ 0 = grind (arith, common_steps) in
    is_body c.args.body.now c.in-Ok.record c.in-Ok.rest.now (λ i. omega (arith, c.type_inv.body i)) c.in-Ok.ensures (nil_from_length c.in-Ok.rest.now counted)

pub returns-else-is_empty : goal.returns-else-is_empty
returns-else-is_empty c =
    is_longer c.args.body.now c.in-Ok.record c.in-Ok.rest.now c.in-Ok.ensures (λ none. let counted : length c.in-Ok.rest.now ≡ 0 = ap length none in grind (arith, common_steps))

pub returns-in-Err-Miss : goal.returns-in-Err-Miss
returns-in-Err-Miss c =
    is_none c.args.body.now c.in-Err-Miss.field-0-0 (subst (λ s. Stops s (record_at c.args.body.now)) c.in-Err-Miss.field-0-is c.in-Err-Miss.ensures)
