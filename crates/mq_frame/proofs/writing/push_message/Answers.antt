use Rattle.std.proofs.Common.{◌≡◌, ℕ, List, [], ◌∷◌, ◌++◌, length, ap, ◌∙◌, rules}
use Rattle.std.proofs.lemmas.Result.{on_ok_weaker}
use Rattle.byteorder.specs.Endian.{big_bytes}
use Rattle.mq_message.specs.Descriptor.{md_bytes}
use Rattle.mq_frame.specs.Frames.{ident_bytes, deadline_bytes, route_bytes, message_bytes}
use Rattle.mq_frame.proofs.Descriptor.{md_written}
use Rattle.mq_frame.proofs.Adding.{adds_one, adds_more}
use Rattle.mq_frame.proofs.writing.push_message.Goals as goal

pub returns-clause-bytes : goal.returns-clause-bytes
unfolding message_bytes
returns-clause-bytes c =
    let m = c.args.message.now in
    let e1 = adds_one _ _ (ident_bytes m.ident) c.in_ok-push_ident.ensures.bytes in
    let e2 = adds_more _ _ _ (ident_bytes m.ident ∷ []) (md_bytes m.md) e1 (c.in_ok-extend_from_slice.ensures.ok ∙ ap (λ (z : List ℕ). c.push_ident.new.out ++ z) c.md_to_bytes.ensures.bytes) in
    let e3 = adds_more _ _ _ (ident_bytes m.ident ∷ md_bytes m.md ∷ []) (deadline_bytes m.deadline) e2 c.in_ok-push_deadline.ensures in
    let e4 = adds_more _ _ _ (ident_bytes m.ident ∷ md_bytes m.md ∷ deadline_bytes m.deadline ∷ []) (route_bytes m.route) e3 c.in_ok-push_route.ensures.bytes in
    let e5 = adds_more _ _ _ (ident_bytes m.ident ∷ md_bytes m.md ∷ deadline_bytes m.deadline ∷ route_bytes m.route ∷ []) (big_bytes 4 (length m.body)) e4 (c.in_ok-push_length.ensures ∙ ap (λ (n : ℕ). c.push_route.new.out ++ big_bytes 4 n) c.len.ensures) in
    on_ok_weaker c.extend_from_slice-2.result (λ e. adds_more _ _ _ (ident_bytes m.ident ∷ md_bytes m.md ∷ deadline_bytes m.deadline ∷ route_bytes m.route ∷ big_bytes 4 (length m.body) ∷ []) m.body e5 (e ∙ ap (λ (z : List ℕ). c.push_length.new.out ++ z) c.as_slice.ensures)) c.extend_from_slice-2.ensures.ok

pub returns-clause-message : goal.returns-clause-message
returns-clause-message c =
    let long : length c.md_to_bytes.result ≡ 324 = search rules in
    let md = md_written c.args.message.now.md c.md_to_bytes.result c.md_to_bytes.ensures.bytes long (search rules) c.md_to_bytes.ensures.back in
    on_ok_weaker c.extend_from_slice-2.result (λ e words. record { ident = c.in_ok-push_ident.ensures.ident; md = md; deadline = words.deadline; route = c.in_ok-push_route.ensures.dest; body = words.body }) c.extend_from_slice-2.ensures.ok
