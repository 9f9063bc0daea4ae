use Rattle.std.proofs.Common.{◌≡◌, ◌+◌, ◌-◌, ◌++◌, ap, subst, ◌∙◌, arith, length}
use Rattle.std.proofs.lemmas.Grind.{common_steps}
use Rattle.mq_frame.specs.declared.fault.Stop.{Stop}
use Rattle.mq_frame.specs.declared.fault.Stop.TheVariants as stops
use Rattle.mq_frame.specs.Decoding.{StopsWell, counted}
use Rattle.mq_frame.proofs.Streams.{told_place}
use Rattle.mq_frame.proofs.decoder.Decoder.feed.Goals as goal

pub returns-in-Wrong-clause-bad : goal.returns-in-Wrong-clause-bad
returns-in-Wrong-clause-bad c = λ fed given h.
    let P : Stop → Type 0 = λ s. StopsWell s c.deref.result.now in
    let bad = subst P (c.in-Err-Miss.field-0-is ∙ ap stops.Miss c.in-Wrong.is) c.in-Err-Miss.ensures.err in
    let held = ap (λ d. d.held) c.self.view_is in
    let before = ap (λ d. d.before) c.self.view_is in
    let whole : c.deref.result.now ≡ c.args.self.now.held ++ c.args.piece.now = grind (arith, common_steps) in
    let place : c.saturating_add-place.result ≡ counted (c.args.self.now.before + (length c.deref.result.now - c.in-Wrong.left)) = omega (arith, c.deref.ensures.len) in
    told_place c.args.self.now fed given c.args.piece.now c.deref.result.now c.in-Wrong.left c.saturating_add-place.result h whole bad place
