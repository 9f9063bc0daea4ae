use Rattle.std.proofs.Common.{◌≡◌, length, drop, arith, sym, ap, ◌∙◌}
use Rattle.std.proofs.lemmas.Slice.Eq.{bytes_eq-Decides}
use Rattle.mq_log.proofs.Imaged.{frame_of, frame_long, frame_gate, frame_body, frame_number}
use Rattle.mq_log.proofs.images.is_framed.Goals as goal

pub returns-then-framed-lt5 : goal.returns-then-framed-lt5
returns-then-framed-lt5 c = ((λ no. absurd (cc no)), λ h. absurd (omega (arith, c.if-framed-lt5.true, frame_long c.args.framed.now c.args.body.now h.0)))

pub returns-then-framed : goal.returns-then-framed
returns-then-framed c = ((λ no. absurd (cc no)), λ h. absurd (c.if-framed.true (frame_gate c.args.framed.now c.args.body.now h.0)))

pub returns-then-body_length-behind : goal.returns-then-body_length-behind
returns-then-body_length-behind c =
    let framed = c.args.framed.now in
    let body = c.args.body.now in (
      (λ no. absurd (cc no)),
      λ h. absurd (c.if-body_length-behind.true (frame_number framed body h.0 c.body_length.result c.body_length.ensures.small h.1 c.body_length.ensures.same ∙ sym (ap length c.split_at.ensures.back))),
    )

pub returns : goal.returns
returns c =
    let framed = c.args.framed.now in
    let body = c.args.body.now in
    let n = c.body_length.result in
    let behind = c.split_at.ensures.back in
    let same = bytes_eq-Decides c.split_at.result.1.now body in
    let size : n ≡ length (drop 5 framed) = c.if-body_length-behind.false ∙ ap length behind in (
      (λ yes.
          let is : drop 5 framed ≡ body = sym behind ∙ same.0 (sym c.eq.ensures ∙ yes) in (
            frame_of framed body n (omega (arith, c.if-framed-lt5.false)) c.if-framed.false c.body_length.ensures.same size is,
            omega (arith, size, ap length is, c.body_length.ensures.small),
          )),
      λ h. c.eq.ensures ∙ same.1 (behind ∙ frame_body framed body h.0),
    )
