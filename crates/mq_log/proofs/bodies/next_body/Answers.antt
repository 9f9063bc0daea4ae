use Rattle.std.proofs.Common.{inl, inr, arith, length, take, drop, ap, ◌∙◌, List, ℕ}
use Rattle.mq_log.proofs.Logs.{no_gate, body_fits, first_body}
use Rattle.mq_log.proofs.bodies.next_body.Goals as goal

pub returns-then-framed-lt5 : goal.returns-then-framed-lt5
returns-then-framed-lt5 c all fits is = no_gate all c.args.bodies.now.framed.now is (inl c.if-framed-lt5.true)

pub returns-then-framed : goal.returns-then-framed
returns-then-framed c all fits is = no_gate all c.args.bodies.now.framed.now is (inr c.if-framed.true)

pub returns-then-behind-size : goal.returns-then-behind-size
returns-then-behind-size c all fits is =
    body_fits all c.args.bodies.now.framed.now c.body_length-size.result fits is c.body_length-size.ensures.value (omega (arith, ap length c.split_at.ensures.back))

pub returns : goal.returns
returns c all fits is =
    let size = c.body_length-size.result in
    first_body all c.args.bodies.now.framed.now size fits is c.body_length-size.ensures.value c.if-framed-lt5.false _ _
    (c.split_at-2.ensures.front ∙ ap (λ (l : List ℕ). take size l) c.split_at.ensures.back)
    (c.split_at-2.ensures.back ∙ ap (λ (l : List ℕ). drop size l) c.split_at.ensures.back)
