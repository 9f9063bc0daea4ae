use Rattle.std.proofs.Common.{◌≡◌, sym, ap, subst, ◌∙◌, arith, Err}
use Rattle.mq_spec_log.specs.from_record.Reading.{Tells}
use Rattle.mq_spec_log.specs.Texts.{change_in}
use Rattle.mq_spec_log.specs.Bodies.{changing, meaning, record_of}
use Rattle.mq_recover_read.proofs.BodyLaws.{body_means, body_is_none}
use Rattle.mq_recover_read.proofs.reading.log_record.Goals as goal

pub returns-in_ok-change-in-Ok-Objects : goal.returns-in_ok-change-in-Ok-Objects
returns-in_ok-change-in-Ok-Objects c =
    let read = body_means c.in-Ok-Objects.field-0 c.args.body.now c.in-Ok-Objects.ensures ∙ ap meaning c.in-Ok-Objects.field-0-is in
    c.changing.ensures ∙ ap changing (c.in_ok-change-in-Ok-Objects.ensures ∙ ap (change_in c.in-Ok-Objects.operation) c.as_slice.ensures) ∙ sym read

pub returns-in-Ok-Other : goal.returns-in-Ok-Other
returns-in-Ok-Other c = sym (body_means c.in-Ok-Other.field-0 c.args.body.now c.in-Ok-Other.ensures ∙ ap meaning c.in-Ok-Other.field-0-is)

pub returns-in-Err-NoRecord : goal.returns-in-Err-NoRecord
returns-in-Err-NoRecord c =
    sym (body_is_none c.args.body.now (λ i. omega (arith, c.type_inv.body i)) (subst (λ e. Tells c.args.body.now (Err e)) c.in-Err-NoRecord.field-0-is c.in-Err-NoRecord.ensures))
