use Rattle.std.proofs.Common.{ℕ, List, ◌++◌, length, ap, ◌∙◌}
use Rattle.byteorder.specs.Endian.{big_bytes}
use Rattle.mq_frame.specs.Frames.{content_bytes, frame_bytes}
use Rattle.mq_frame.proofs.writing.encode.Goals as goal

pub returns-clause-bytes : goal.returns-clause-bytes
unfolding frame_bytes
returns-clause-bytes c =
    let f = c.args.frame.now in
    let body = c.as_slice.ensures ∙ c.in_ok-content.ensures.bytes in
    let long = c.len.ensures ∙ ap (λ (z : List ℕ). length z) c.in_ok-content.ensures.bytes in
    c.in_ok-extend_from_slice.ensures.ok ∙ ap (λ (z : List ℕ). z ++ c.as_slice.result.now) (c.in_ok-push_length.ensures ∙ ap (λ (z : List ℕ). z ++ big_bytes 4 c.len.result) c.new-out.ensures) ∙ ap (λ (n : ℕ). big_bytes 4 n ++ c.as_slice.result.now) long ∙ ap (λ (z : List ℕ). big_bytes 4 (length (content_bytes f)) ++ z) body

pub returns-clause-frame : goal.returns-clause-frame
returns-clause-frame c spelling = (c.in_ok-content.ensures.frame spelling, returns-clause-bytes c)
