use Rattle.std.proofs.Common.{ℕ, List, [], ◌∷◌, ◌++◌, ap, ◌∙◌}
use Rattle.byteorder.specs.Endian.{big_bytes}
use Rattle.mq_frame.specs.Frames.{kind_number, fields_bytes, content_bytes}
use Rattle.mq_frame.proofs.Adding.{adds_one, adds_more}
use Rattle.mq_frame.proofs.writing.content.Goals as goal

pub returns-clause-bytes : goal.returns-clause-bytes
unfolding content_bytes
returns-clause-bytes c =
    let f = c.args.frame.now in
    let e1 = adds_one [] _ (kind_number f.kind ∷ []) (c.in_ok-push.ensures.ok ∙ ap (λ (z : List ℕ). z ++ c.kind_number.result ∷ []) c.new-out.ensures ∙ ap (λ (n : ℕ). n ∷ []) c.kind_number.ensures) in
    let e2 = adds_more [] _ _ ((kind_number f.kind ∷ []) ∷ []) (big_bytes 8 f.stamp) e1 c.in_ok-push_u64.ensures in
    let e3 = adds_more [] _ _ ((kind_number f.kind ∷ []) ∷ big_bytes 8 f.stamp ∷ []) (big_bytes 8 f.session) e2 c.in_ok-push_u64-2.ensures in
    adds_more [] _ _ ((kind_number f.kind ∷ []) ∷ big_bytes 8 f.stamp ∷ big_bytes 8 f.session ∷ []) (fields_bytes f.kind) e3 c.in_ok-push_fields.ensures.bytes
