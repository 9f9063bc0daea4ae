use Rattle.std.proofs.Common.{◌≡◌, subst, arith, ap, length}
use Rattle.std.proofs.lemmas.Grind.{common_steps}
use Rattle.std.proofs.lemmas.List.{nil_from_length}
use Rattle.mq_frame.specs.Reading.{Stops, frame_at}
use Rattle.mq_frame.proofs.Streams.{shows_frame, shows_more, shows_none}
use Rattle.mq_frame.proofs.sight.seen_of.Goals as goal

pub returns-then-is_empty : goal.returns-then-is_empty
returns-then-is_empty c =
    let counted : length c.in-Ok.rest.now ≡ 0 = grind (arith, common_steps) in
    shows_frame c.args.bytes.now c.in-Ok.frame c.in-Ok.rest.now (λ i. omega (arith, c.type_inv.bytes i)) (nil_from_length c.in-Ok.rest.now counted) c.in-Ok.ensures

pub returns-else-is_empty : goal.returns-else-is_empty
returns-else-is_empty c = λ g is p.
    shows_more c.args.bytes.now c.in-Ok.frame c.in-Ok.rest.now (λ none. let counted : length c.in-Ok.rest.now ≡ 0 = ap length none in grind (arith, common_steps)) c.in-Ok.ensures g is p

pub returns-in-Err-Miss : goal.returns-in-Err-Miss
returns-in-Err-Miss c = λ g is p.
    shows_none c.args.bytes.now c.in-Err-Miss.field-0-0 (subst (λ s. Stops s (frame_at c.args.bytes.now)) c.in-Err-Miss.field-0-is c.in-Err-Miss.ensures) g is p
