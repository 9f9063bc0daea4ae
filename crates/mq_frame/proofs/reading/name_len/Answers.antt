use Rattle.std.proofs.Common.{ap, sym, ◌∙◌, subst, take, Err}
use Rattle.mq_message.specs.from_base.Name.{name_of, IsName}
use Rattle.mq_frame.proofs.Names.{front_whole, front_bad}
use Rattle.mq_frame.proofs.reading.name_len.Goals as goal

pub returns-in-Ok-clause-length : goal.returns-in-Ok-clause-length
returns-in-Ok-clause-length c =
    let h = front_whole c.args.bytes.now c.in-Ok.field-0 c.min.result c.min.ensures (ap (name_of 48) (sym c.split_at.ensures.front) ∙ sym c.of.ensures ∙ c.in-Ok.is) in
    c.split_at.ensures.front_len ∙ h.length

pub returns-in-Ok-clause-front : goal.returns-in-Ok-clause-front
returns-in-Ok-clause-front c =
    let h = front_whole c.args.bytes.now c.in-Ok.field-0 c.min.result c.min.ensures (ap (name_of 48) (sym c.split_at.ensures.front) ∙ sym c.of.ensures ∙ c.in-Ok.is) in
    ap (λ k. take k c.args.bytes.now) c.split_at.ensures.front_len ∙ h.front

pub returns-in-Err-BadByte-clause-length : goal.returns-in-Err-BadByte-clause-length
returns-in-Err-BadByte-clause-length c =
    let h = front_bad c.args.bytes.now c.min.result c.in-Err-BadByte.place c.min.ensures (ap (name_of 48) (sym c.split_at.ensures.front) ∙ sym c.of.ensures ∙ c.in-Err-BadByte.is ∙ ap (λ e. Err e) c.in-Err-BadByte.field-0-is) in
    c.in-Err-BadByte.place-is ∙ h.length

pub returns-in-Err-BadByte-clause-name : goal.returns-in-Err-BadByte-clause-name
returns-in-Err-BadByte-clause-name c =
    let h = front_bad c.args.bytes.now c.min.result c.in-Err-BadByte.place c.min.ensures (ap (name_of 48) (sym c.split_at.ensures.front) ∙ sym c.of.ensures ∙ c.in-Err-BadByte.is ∙ ap (λ e. Err e) c.in-Err-BadByte.field-0-is) in
    subst (λ k. IsName 48 (take k c.args.bytes.now)) (sym c.in-Err-BadByte.place-is) h.name

pub returns-in-Err-BadByte-clause-front : goal.returns-in-Err-BadByte-clause-front
returns-in-Err-BadByte-clause-front c =
    let h = front_bad c.args.bytes.now c.min.result c.in-Err-BadByte.place c.min.ensures (ap (name_of 48) (sym c.split_at.ensures.front) ∙ sym c.of.ensures ∙ c.in-Err-BadByte.is ∙ ap (λ e. Err e) c.in-Err-BadByte.field-0-is) in
    ap (λ k. take k c.args.bytes.now) c.in-Err-BadByte.place-is ∙ h.front
