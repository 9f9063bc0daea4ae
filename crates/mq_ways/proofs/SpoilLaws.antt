-- A frame begins with a byte 0, since it is shorter than 2^24; so spoiled, with ff as its first byte, it is none.
use Rattle.std.proofs.Common.{◌≡◌, ℕ, ◌+◌, ◌≤◌, List, [], ◌∷◌, length, refl, sym, ap, ◌∙◌, arith}
use Rattle.std.specs.Prelude.{Some, slice_get}
use Rattle.std.specs.Int.{byte_at}
use Rattle.mq_cable.specs.Faults.{spoil}
use Rattle.mq_frame.specs.declared.frame.Frame.{Frame}
use Rattle.mq_frame.specs.declared.frame.FrameKind.{FrameKind}
use Rattle.mq_frame.specs.declared.frame.FrameKind.TheVariants as kinds
use Rattle.mq_frame.specs.declared.frame.Seen.TheVariants as items
use Rattle.mq_frame.specs.Frames.{IsFrame, IsKind, content_bytes, frame_bytes, most_body}
use Rattle.mq_frame.specs.Sight.{Shows}
use Rattle.mq_frame.proofs.KindReaders.{length_content, shape_of_kind}
use Rattle.mq_frame.proofs.Shapes.{shape_length}

kind_few : (k : FrameKind) → IsKind k → shape_length (shape_of_kind k) ≤ 483 + most_body
kind_few (kinds.Bind last force) h = omega arith
kind_few (kinds.Status session n last) h = omega arith
kind_few (kinds.Msg n index number dest message) h = let few = h.5.body in omega (arith, few)
kind_few (kinds.End n count last) h = omega arith
kind_few (kinds.Ack n) h = omega arith
kind_few (kinds.Err n reason) h = omega arith

content_few : (f : Frame) → IsFrame f → length (content_bytes f) ≤ 483 + most_body
content_few f h =
    let long = length_content f h.kind in
    let few = kind_few f.kind h.kind in
    omega (arith, long, few)

byte_none : (n : ℕ) → n ≤ 483 + most_body → byte_at 3 n ≡ 0
byte_none n h = omega (arith, h)

first_is : (f : Frame) → IsFrame f → slice_get (frame_bytes f) 0 ≡ Some 0
unfolding frame_bytes
first_is f h = ap Some (byte_none (length (content_bytes f)) (content_few f h))

spoiled_first : (bs : List ℕ) (b : ℕ) → slice_get bs 0 ≡ Some b → slice_get (spoil bs) 0 ≡ Some 255
spoiled_first [] b e = absurd cc
spoiled_first (x ∷ xs) b e = refl

differ : (a b : ℕ) → a ≡ 255 → b ≡ 0 → Some a ≡ Some b → ⊥
differ a b p q e = let k = value a b e in omega (arith, p, q, k)
  where
    value : (n m : ℕ) → Some n ≡ Some m → n ≡ m
    value n m k = cc

pub spoiled_shows : (f : Frame) → IsFrame f → Shows (spoil (frame_bytes f)) items.Spoiled
spoiled_shows f h g is e = differ 255 0 refl refl (sym (spoiled_first (frame_bytes f) 0 (first_is f h)) ∙ ap (λ (bs : List ℕ). slice_get bs 0) e ∙ first_is g is)
