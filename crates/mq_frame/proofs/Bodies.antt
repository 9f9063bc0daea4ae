-- A message whose body is on its way: until all of it is there, the bytes stay a part of a frame.
use Rattle.std.proofs.Common.{◌≡◌, ℕ, ◌+◌, ◌-◌, ◌<◌, ◌≤◌, List, [], ◌∷◌, ◌++◌, length, take, drop, replicate, refl, sym, ap, subst, ◌∙◌, append_assoc, arith}
use Rattle.std.proofs.lemmas.List.{append-nil, take-append-drop, length-append, drop_at, take_at, drop-append-le, take-append-le, length-replicate}
use Rattle.byteorder.specs.Endian.{big_bytes, big_number}
use Rattle.byteorder.specs.Numbers.{big_number-reads_back}
use Rattle.mq_message.specs.declared.message.Dest.{Dest}
use Rattle.mq_message.specs.declared.message.Message.{Message}
use Rattle.mq_message.specs.Descriptor.{md_bytes}
use Rattle.mq_frame.specs.declared.frame.Frame.{Frame}
use Rattle.mq_frame.specs.declared.frame.FrameKind.{FrameKind}
use Rattle.mq_frame.specs.declared.frame.FrameKind.TheVariants as kinds
use Rattle.mq_frame.specs.Frames.{most_body, ident_bytes, deadline_bytes, dest_bytes, route_bytes, message_bytes, fields_bytes, content_bytes, frame_bytes, IsFrame, IsPartial, IsCut}
use Rattle.mq_frame.specs.Decoding.{StaysPartial}
use Rattle.mq_frame.proofs.Shapes.{shape_length}
use Rattle.mq_frame.proofs.KindReaders.{length_content, shape_of_kind}

-- a message with another body
abbrev with_body : Message → List ℕ → Message
with_body m body = record { ident = m.ident; md = m.md; route = m.route; deadline = m.deadline; body = body }

-- a frame of a message
abbrev carrying : ℕ → ℕ → ℕ → ℕ → ℕ → Dest → Message → Frame
carrying stamp session n index number dest message = record { stamp = stamp; session = session; kind = kinds.Msg n index number dest message }

-- what stands before a body of that length
abbrev content_front : ℕ → ℕ → ℕ → ℕ → ℕ → Dest → Message → ℕ → List ℕ
content_front stamp session n index number dest m long =
    3 ∷ (big_bytes 8 stamp ++ (big_bytes 8 session ++ (big_bytes 8 n ++ (big_bytes 4 index ++ (big_bytes 4 number ++ (dest_bytes dest ++ (ident_bytes m.ident ++ (md_bytes m.md ++ (deadline_bytes m.deadline ++ (route_bytes m.route ++ big_bytes 4 long))))))))))

content_ends : (stamp session n index number : ℕ) (dest : Dest) (m : Message) → content_bytes (carrying stamp session n index number dest m) ≡ content_front stamp session n index number dest m (length m.body) ++ m.body
unfolding content_bytes fields_bytes message_bytes
content_ends stamp session n index number dest m = simp (append_assoc, append-nil)

abbrev frame_front : ℕ → ℕ → ℕ → ℕ → ℕ → Dest → Message → ℕ → List ℕ
frame_front stamp session n index number dest m long = big_bytes 4 (483 + long) ++ content_front stamp session n index number dest m long

frame_ends : (stamp session n index number : ℕ) (dest : Dest) (m : Message) → IsFrame (carrying stamp session n index number dest m) → frame_bytes (carrying stamp session n index number dest m) ≡ frame_front stamp session n index number dest m (length m.body) ++ m.body
unfolding frame_bytes
frame_ends stamp session n index number dest m h =
    let f = carrying stamp session n index number dest m in
    let front = content_front stamp session n index number dest m (length m.body) in
    ap (λ (k : ℕ). big_bytes 4 k ++ content_bytes f) (length_content f h.kind)
    ∙ ap (λ (x : List ℕ). big_bytes 4 (483 + length m.body) ++ x) (content_ends stamp session n index number dest m)
    ∙ sym (append_assoc (big_bytes 4 (483 + length m.body)) front m.body)

-- how long a frame is
frame_length : (f : Frame) → IsFrame f → length (frame_bytes f) ≡ 4 + shape_length (shape_of_kind f.kind)
unfolding frame_bytes
frame_length f h = omega (arith, length_content f h.kind)

-- two ways to part a list, the first before the second
record Parted (front body bytes tail : List ℕ) : Type 0 where
  pub between : List ℕ
  pub bytes_are : bytes ≡ front ++ between
  pub body_is : body ≡ between ++ tail

parted : (front body bytes tail : List ℕ) → front ++ body ≡ bytes ++ tail → length front ≤ length bytes → Parted front body bytes tail
parted front body bytes tail e le = record {
  between = drop (length front) bytes;
  bytes_are = sym (take-append-drop (length front) bytes) ∙ ap (λ (x : List ℕ). x ++ drop (length front) bytes) (sym (take-append-le (length front) bytes tail le) ∙ ap (take (length front)) (sym e) ∙ take_at front body (length front) refl);
  body_is = sym (drop_at front body (length front) refl) ∙ ap (drop (length front)) e ∙ drop-append-le (length front) bytes tail le;
}

-- so many bytes more, the last of them zeros
pad : ℕ → List ℕ
pad k = replicate k 0

body_on : (stamp session n index number : ℕ) (dest : Dest) (m : Message) (bytes x : List ℕ) (next : ℕ) (more : List ℕ) → IsFrame (carrying stamp session n index number dest m) → frame_bytes (carrying stamp session n index number dest m) ≡ bytes ++ next ∷ more → 487 ≤ length bytes → length (bytes ++ x) < 4 + big_number 4 bytes → IsPartial (bytes ++ x)
body_on stamp session n index number dest m bytes x next more is begins long short =
    let f = carrying stamp session n index number dest m in
    let front = frame_front stamp session n index number dest m (length m.body) in
    let ends = frame_ends stamp session n index number dest m is in
    let counted : length front ≡ 487 = omega (arith, ap length ends, length-append front m.body, frame_length f is) in
    let p = parted front m.body bytes (next ∷ more) (sym ends ∙ begins) (omega (arith, counted, long)) in
    let small : length m.body ≤ most_body = is.kind.5.body in
    let number_is : big_number 4 bytes ≡ 483 + length m.body = ap (big_number 4) (p.bytes_are ∙ append_assoc (big_bytes 4 (483 + length m.body)) (content_front stamp session n index number dest m (length m.body)) p.between) ∙ big_number-reads_back 4 (483 + length m.body) (content_front stamp session n index number dest m (length m.body) ++ p.between) (omega (arith, small)) in
    let room : length p.between + length x < length m.body = omega (arith, short, number_is, counted, ap length p.bytes_are, length-append front p.between, length-append bytes x) in
    let left = length m.body - (length p.between + length x) - 1 in
    let body : List ℕ = (p.between ++ x) ++ 0 ∷ replicate left 0 in
    let same : length body ≡ length m.body = omega (arith, room, length-append (p.between ++ x) (0 ∷ replicate left 0), length-append p.between x, length-replicate {A = ℕ} left 0) in
    let made = with_body m body in
    let made_is : IsFrame (carrying stamp session n index number dest made) = record {
      stamp = is.stamp;
      session = is.session;
      kind = (is.kind.0, is.kind.1, is.kind.2, is.kind.3, is.kind.4, record { ident = is.kind.5.ident; md = is.kind.5.md; deadline = is.kind.5.deadline; route = is.kind.5.route; body = omega (arith, small, same) }, is.kind.6);
    } in
    record {
      frame = carrying stamp session n index number dest made;
      next = 0;
      more = replicate left 0;
      is = made_is;
      begins = frame_ends stamp session n index number dest made made_is
          ∙ ap (λ (k : ℕ). frame_front stamp session n index number dest m k ++ body) same
          ∙ sym (append_assoc front (p.between ++ x) (0 ∷ replicate left 0))
          ∙ ap (λ (y : List ℕ). y ++ 0 ∷ replicate left 0) (sym (append_assoc front p.between x) ∙ ap (λ (y : List ℕ). y ++ x) (sym p.bytes_are));
    }

-- no other frame is so long
too_short : (f : Frame) (bytes : List ℕ) (next : ℕ) (more : List ℕ) → IsFrame f → frame_bytes f ≡ bytes ++ next ∷ more → 487 ≤ length bytes → shape_length (shape_of_kind f.kind) ≤ 41 → ⊥
too_short f bytes next more is begins long small = omega (arith, frame_length f is, ap length begins, length-append bytes (next ∷ more), long, small)

frame_on : (stamp session : ℕ) (kind : FrameKind) (bytes x : List ℕ) (next : ℕ) (more : List ℕ) → IsFrame (record { stamp = stamp; session = session; kind = kind }) → frame_bytes (record { stamp = stamp; session = session; kind = kind }) ≡ bytes ++ next ∷ more → 487 ≤ length bytes → length (bytes ++ x) < 4 + big_number 4 bytes → IsPartial (bytes ++ x)
frame_on stamp session (kinds.Bind last force) bytes x next more is begins long short = absurd (too_short (record { stamp = stamp; session = session; kind = kinds.Bind last force }) bytes next more is begins long (omega arith))
frame_on stamp session (kinds.Status s n last) bytes x next more is begins long short = absurd (too_short (record { stamp = stamp; session = session; kind = kinds.Status s n last }) bytes next more is begins long (omega arith))
frame_on stamp session (kinds.Msg n index number dest m) bytes x next more is begins long short = body_on stamp session n index number dest m bytes x next more is begins long short
frame_on stamp session (kinds.End n count last) bytes x next more is begins long short = absurd (too_short (record { stamp = stamp; session = session; kind = kinds.End n count last }) bytes next more is begins long (omega arith))
frame_on stamp session (kinds.Ack n) bytes x next more is begins long short = absurd (too_short (record { stamp = stamp; session = session; kind = kinds.Ack n }) bytes next more is begins long (omega arith))
frame_on stamp session (kinds.Err n reason) bytes x next more is begins long short = absurd (too_short (record { stamp = stamp; session = session; kind = kinds.Err n reason }) bytes next more is begins long (omega arith))

-- a part that has all that stands before a body stays a part until the body is there
pub body_stays : (bytes : List ℕ) → IsPartial bytes → 487 ≤ length bytes → StaysPartial bytes (4 + big_number 4 bytes)
body_stays bytes h long = λ x short. frame_on h.frame.stamp h.frame.session h.frame.kind bytes x h.next h.more h.is h.begins long short

-- bytes that come meanwhile leave it so
pub stays_on : (bytes x : List ℕ) (wanted : ℕ) → StaysPartial bytes wanted → StaysPartial (bytes ++ x) wanted
stays_on bytes x wanted h = λ y short. subst IsPartial (sym (append_assoc bytes x y)) (h (x ++ y) (omega (arith, short, ap length (append_assoc bytes x y))))

-- and give no frame
pub stays_cut : (bytes x : List ℕ) (wanted : ℕ) → StaysPartial bytes wanted → length (bytes ++ x) < wanted → IsCut (bytes ++ x) [] (bytes ++ x)
stays_cut bytes x wanted h short = record { each = tt; whole = refl; partial = h x short }
