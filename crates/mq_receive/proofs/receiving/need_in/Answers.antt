use Rattle.std.proofs.Common.{◌+◌, ℕ, ap, sym, ◌∙◌}
use Rattle.mq_calls.specs.Words.{is_full}
use Rattle.mq_core.specs.Views.{plain_of}
use Rattle.mq_receive.specs.Filling.{adds_size}
use Rattle.mq_receive.proofs.NeedLaws.{need_is, full_of, has_need}
use Rattle.mq_receive.proofs.receiving.need_in.Goals as goal

pub returns-in_default : goal.returns-in_default
returns-in_default g c = λ channel unit last.
    let p = plain_of c.args.parts.now in
    ap (λ (n : ℕ). is_full n p) (need_is channel unit last c.args.landed.now) ∙ full_of (50 + adds_size c.args.landed.now) p c.requires.tied.max c.in_default.ensures

pub returns-then-is_full : goal.returns-then-is_full
returns-then-is_full g c = λ channel unit last.
    let p = plain_of c.args.parts.now in
    ap (λ (n : ℕ). is_full n p) (need_is channel unit last c.args.landed.now ∙ sym c.in-Some.ensures) ∙ sym c.is_full.ensures ∙ c.if-is_full.true

pub returns : goal.returns
returns g c = λ channel unit last. has_need channel unit last c.args.landed.now c.in-Some.bytes (plain_of c.args.parts.now) c.requires.tied.max c.in-Some.ensures (sym c.is_full.ensures ∙ c.if-is_full.false)
