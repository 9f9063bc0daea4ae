use Rattle.std.proofs.Common.{◌≡◌, Bool, arith, refl, sym, ap, ◌∙◌, not, true, false}
use Rattle.std.proofs.lemmas.Slice.Eq.{bytes_eq-Decides}
use Rattle.std.specs.Str.{bytes_eq}
use Rattle.mq_log.proofs.Imaged.{more_by, more_front, more_frame, more_long}
use Rattle.mq_log.proofs.images.is_more_by.Goals as goal

pub returns-then-read-front : goal.returns-then-read-front
returns-then-read-front c = ((λ no. absurd (cc no)), λ h. absurd (omega (arith, c.if-read-front.true, more_long c.args.front.now c.args.body.now c.args.read.now h)))

pub returns-then-ne : goal.returns-then-ne
returns-then-ne c =
    let same = bytes_eq-Decides c.split_at.result.0.now c.args.front.now in (
      (λ no. absurd (cc no)),
      λ h.
          let equal : not (bytes_eq c.split_at.result.0.now c.args.front.now) ≡ false =
          ap not (same.1 (c.split_at.ensures.front ∙ more_front c.args.front.now c.args.body.now c.args.read.now h)) in
          absurd (cc (c.if-ne.true, c.ne.ensures, equal)),
    )

not_false : (b : Bool) → not b ≡ false → b ≡ true
not_false true e = refl
not_false false e = sym e

pub returns : goal.returns
returns c =
    let same = bytes_eq-Decides c.split_at.result.0.now c.args.front.now in
    let equal : bytes_eq c.split_at.result.0.now c.args.front.now ≡ true = not_false _ (sym c.ne.ensures ∙ c.if-ne.false) in
    let before = sym c.split_at.ensures.front ∙ same.0 equal in (
      (λ yes. let framed = c.is_framed.ensures.0 yes in more_by c.args.front.now c.args.body.now c.args.read.now before (sym c.split_at.ensures.back ∙ framed.0) framed.1),
      λ h. c.is_framed.ensures.1 (c.split_at.ensures.back ∙ more_frame c.args.front.now c.args.body.now c.args.read.now h, h.1),
    )
