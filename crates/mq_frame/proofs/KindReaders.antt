-- The readers of a frame's fields, and of a frame.
use Rattle.std.proofs.Common.{◌≡◌, ℕ, zero, suc, ◌+◌, ◌≤◌, Bool, true, false, eqb, ◌-◌, List, [], ◌∷◌, ◌++◌, length, replicate, Option, Some, None, Result, Ok, refl, sym, ap, subst, ◌∙◌, arith}
use Rattle.std.specs.List.{concat}
use Rattle.std.proofs.lemmas.List.{append-nil, length-append, length-replicate}
use Rattle.byteorder.specs.Endian.{big_bytes}
use Rattle.mq_message.specs.from_base.Name.{padded}
use Rattle.mq_message.specs.declared.message.Dest.{Dest}
use Rattle.mq_message.specs.declared.message.Message.{Message}
use Rattle.mq_frame.specs.declared.fault.Miss.{Miss}
use Rattle.mq_frame.specs.declared.frame.Frame.{Frame}
use Rattle.mq_frame.specs.declared.frame.FrameKind.{FrameKind}
use Rattle.mq_frame.specs.declared.frame.FrameKind.TheVariants as kinds
use Rattle.mq_frame.specs.declared.shape.FrameShape.{FrameShape}
use Rattle.mq_frame.specs.declared.shape.FrameShape.TheVariants as shapes
use Rattle.mq_message.specs.Descriptor.{md_bytes}
use Rattle.mq_frame.specs.Frames.{most_body, ident_bytes, deadline_bytes, route_bytes, dest_bytes, message_bytes, flag, kind_number, fields_bytes, content_bytes, frame_bytes, IsKind, IsFrame, IsDest, IsMessage}
use Rattle.mq_frame.specs.Reading.{◌>>=◌, byte_at, fixed_at, number_at, positive_at, dest_at, message_at, shape_at, shape_number, bind_at, status_at, msg_at, end_at, ack_at, err_at, kind_at, frame_at}
use Rattle.mq_frame.proofs.Readers.{Reads, Then, Reads-then, Reads-told, Reads-pure}
use Rattle.mq_frame.proofs.Pieces.{InRange, SpellsNumber, SpellsPositive, Reads-byte, Reads-fixed, Reads-number, Reads-positive}
use Rattle.mq_frame.proofs.Descriptor.{md_given}
use Rattle.mq_frame.proofs.Parts.{Made, joined, SpellsDest, SpellsMessage, Reads-dest, Reads-message}
use Rattle.mq_frame.proofs.Shapes.{shape_length, IsShape, SpellsShape, Reads-shape}

abbrev pub shape_of_kind : FrameKind → FrameShape
shape_of_kind (kinds.Bind last force) = shapes.Bind
shape_of_kind (kinds.Status session n last) = shapes.Status
shape_of_kind (kinds.Msg n index number dest message) = shapes.Msg (length message.body)
shape_of_kind (kinds.End n count last) = shapes.End
shape_of_kind (kinds.Ack n) = shapes.Ack
shape_of_kind (kinds.Err n reason) = shapes.Err

-- the fields of a kind that has this shape
pub record SpellsKind (s : FrameShape) (k : FrameKind) (text : List ℕ) : Type 0 where
  pub is : IsKind k
  pub shape : shape_of_kind k ≡ s
  pub whole : text ≡ fields_bytes k

-- ---- BIND

abbrev BindOn : ℕ → FrameKind → List ℕ → Type 0
BindOn last = Then (InRange 0 1) (λ force. Made (kinds.Bind last (eqb force 1)))

pub flag_is : (n : ℕ) → n ≤ 1 → flag (eqb n 1) ≡ n
flag_is zero h = refl
flag_is (suc zero) h = refl
flag_is (suc (suc n)) h = absurd (omega arith)

bind_to : (k : FrameKind) (text : List ℕ) → Then (SpellsNumber 4) BindOn k text → SpellsKind shapes.Bind k text
unfolding fields_bytes
bind_to k text h =
    let h2 = h.then_spelled in
    let same : h2.first ∷ [] ≡ flag (eqb h2.first 1) ∷ [] = ap (λ (n : ℕ). n ∷ []) (sym (flag_is h2.first h2.spelled.1)) in
    subst (λ (v : FrameKind). SpellsKind shapes.Bind v text) (sym h2.then_spelled.0) (record { is = h.spelled.0; shape = refl; whole = joined h.parts h.spelled.1 (joined h2.parts (h2.spelled.2 ∙ same) h2.then_spelled.1) })

flag_back : (b : Bool) → eqb (flag b) 1 ≡ b
flag_back true = refl
flag_back false = refl

flag_small : (b : Bool) → flag b ≤ 1
flag_small true = omega arith
flag_small false = omega arith

bind_from : (k : FrameKind) (text : List ℕ) → SpellsKind shapes.Bind k text → Then (SpellsNumber 4) BindOn k text
unfolding fields_bytes
bind_from (kinds.Bind last force) text h = record {
  first = last;
  front = big_bytes 4 last;
  back = concat ((flag force ∷ []) ∷ []);
  parts = h.whole;
  spelled = (h.is, refl);
  then_spelled = record { first = flag force; front = flag force ∷ []; back = []; parts = refl; spelled = (omega arith, flag_small force, refl); then_spelled = (ap (kinds.Bind last) (sym (flag_back force)), refl) };
}
bind_from (kinds.Status session n last) text h = absurd (let e = h.shape in cc)
bind_from (kinds.Msg n index number dest message) text h = absurd (let e = h.shape in cc)
bind_from (kinds.End n count last) text h = absurd (let e = h.shape in cc)
bind_from (kinds.Ack n) text h = absurd (let e = h.shape in cc)
bind_from (kinds.Err n reason) text h = absurd (let e = h.shape in cc)

Reads-bind : Reads bind_at (SpellsKind shapes.Bind)
unfolding bind_at
Reads-bind =
    Reads-told bind_at (Then (SpellsNumber 4) BindOn) (SpellsKind shapes.Bind)
    (Reads-then (number_at 4) (SpellsNumber 4) (λ last bytes. byte_at 0 1 bytes >>= λ force. Ok (kinds.Bind last (eqb force.0 1), force.1)) BindOn (Reads-number 4) (λ last t p.
    Reads-then (byte_at 0 1) (InRange 0 1) (λ force bytes. Ok (kinds.Bind last (eqb force 1), bytes)) (λ force. Made (kinds.Bind last (eqb force 1))) (Reads-byte 0 1 (omega arith)) (λ force u q.
    Reads-pure (kinds.Bind last (eqb force 1)))))
    bind_to bind_from

-- ---- STATUS

abbrev StatusOn2 : ℕ → ℕ → FrameKind → List ℕ → Type 0
StatusOn2 session n = Then (SpellsNumber 4) (λ last. Made (kinds.Status session n last))

abbrev StatusOn1 : ℕ → FrameKind → List ℕ → Type 0
StatusOn1 session = Then (SpellsNumber 8) (StatusOn2 session)

status_to : (k : FrameKind) (text : List ℕ) → Then (SpellsNumber 8) StatusOn1 k text → SpellsKind shapes.Status k text
unfolding fields_bytes
status_to k text h =
    let h2 = h.then_spelled in
    let h3 = h2.then_spelled in
    subst (λ (v : FrameKind). SpellsKind shapes.Status v text) (sym h3.then_spelled.0) (record { is = (h.spelled.0, h2.spelled.0, h3.spelled.0); shape = refl; whole = joined h.parts h.spelled.1 (joined h2.parts h2.spelled.1 (joined h3.parts h3.spelled.1 h3.then_spelled.1)) })

status_from : (k : FrameKind) (text : List ℕ) → SpellsKind shapes.Status k text → Then (SpellsNumber 8) StatusOn1 k text
unfolding fields_bytes
status_from (kinds.Status session n last) text h = record {
  first = session;
  front = big_bytes 8 session;
  back = concat (big_bytes 8 n ∷ big_bytes 4 last ∷ []);
  parts = h.whole;
  spelled = (h.is.0, refl);
  then_spelled = record {
    first = n;
    front = big_bytes 8 n;
    back = concat (big_bytes 4 last ∷ []);
    parts = refl;
    spelled = (h.is.1, refl);
    then_spelled = record { first = last; front = big_bytes 4 last; back = []; parts = refl; spelled = (h.is.2, refl); then_spelled = (refl, refl) };
  };
}
status_from (kinds.Bind last force) text h = absurd (let e = h.shape in cc)
status_from (kinds.Msg n index number dest message) text h = absurd (let e = h.shape in cc)
status_from (kinds.End n count last) text h = absurd (let e = h.shape in cc)
status_from (kinds.Ack n) text h = absurd (let e = h.shape in cc)
status_from (kinds.Err n reason) text h = absurd (let e = h.shape in cc)

Reads-status : Reads status_at (SpellsKind shapes.Status)
unfolding status_at
Reads-status =
    Reads-told status_at (Then (SpellsNumber 8) StatusOn1) (SpellsKind shapes.Status)
    (Reads-then (number_at 8) (SpellsNumber 8) (λ session bytes. number_at 8 bytes >>= λ n. number_at 4 n.1 >>= λ last. Ok (kinds.Status session n.0 last.0, last.1)) StatusOn1 (Reads-number 8) (λ session t p.
    Reads-then (number_at 8) (SpellsNumber 8) (λ n bytes. number_at 4 bytes >>= λ last. Ok (kinds.Status session n last.0, last.1)) (StatusOn2 session) (Reads-number 8) (λ n u q.
    Reads-then (number_at 4) (SpellsNumber 4) (λ last bytes. Ok (kinds.Status session n last, bytes)) (λ last. Made (kinds.Status session n last)) (Reads-number 4) (λ last v r.
    Reads-pure (kinds.Status session n last)))))
    status_to status_from

-- ---- END

abbrev EndOn2 : ℕ → ℕ → FrameKind → List ℕ → Type 0
EndOn2 n count = Then (SpellsNumber 4) (λ last. Made (kinds.End n count last))

abbrev EndOn1 : ℕ → FrameKind → List ℕ → Type 0
EndOn1 n = Then SpellsPositive (EndOn2 n)

end_to : (k : FrameKind) (text : List ℕ) → Then (SpellsNumber 8) EndOn1 k text → SpellsKind shapes.End k text
unfolding fields_bytes
end_to k text h =
    let h2 = h.then_spelled in
    let h3 = h2.then_spelled in
    subst (λ (v : FrameKind). SpellsKind shapes.End v text) (sym h3.then_spelled.0) (record { is = (h.spelled.0, h2.spelled.0, h2.spelled.1, h3.spelled.0); shape = refl; whole = joined h.parts h.spelled.1 (joined h2.parts h2.spelled.2 (joined h3.parts h3.spelled.1 h3.then_spelled.1)) })

end_from : (k : FrameKind) (text : List ℕ) → SpellsKind shapes.End k text → Then (SpellsNumber 8) EndOn1 k text
unfolding fields_bytes
end_from (kinds.End n count last) text h = record {
  first = n;
  front = big_bytes 8 n;
  back = concat (big_bytes 4 count ∷ big_bytes 4 last ∷ []);
  parts = h.whole;
  spelled = (h.is.0, refl);
  then_spelled = record {
    first = count;
    front = big_bytes 4 count;
    back = concat (big_bytes 4 last ∷ []);
    parts = refl;
    spelled = (h.is.1, h.is.2, refl);
    then_spelled = record { first = last; front = big_bytes 4 last; back = []; parts = refl; spelled = (h.is.3, refl); then_spelled = (refl, refl) };
  };
}
end_from (kinds.Bind last force) text h = absurd (let e = h.shape in cc)
end_from (kinds.Status session n last) text h = absurd (let e = h.shape in cc)
end_from (kinds.Msg n index number dest message) text h = absurd (let e = h.shape in cc)
end_from (kinds.Ack n) text h = absurd (let e = h.shape in cc)
end_from (kinds.Err n reason) text h = absurd (let e = h.shape in cc)

Reads-end : Reads end_at (SpellsKind shapes.End)
unfolding end_at
Reads-end =
    Reads-told end_at (Then (SpellsNumber 8) EndOn1) (SpellsKind shapes.End)
    (Reads-then (number_at 8) (SpellsNumber 8) (λ n bytes. positive_at bytes >>= λ count. number_at 4 count.1 >>= λ last. Ok (kinds.End n count.0 last.0, last.1)) EndOn1 (Reads-number 8) (λ n t p.
    Reads-then positive_at SpellsPositive (λ count bytes. number_at 4 bytes >>= λ last. Ok (kinds.End n count last.0, last.1)) (EndOn2 n) Reads-positive (λ count u q.
    Reads-then (number_at 4) (SpellsNumber 4) (λ last bytes. Ok (kinds.End n count last, bytes)) (λ last. Made (kinds.End n count last)) (Reads-number 4) (λ last v r.
    Reads-pure (kinds.End n count last)))))
    end_to end_from

-- ---- ACK

ack_to : (k : FrameKind) (text : List ℕ) → Then (SpellsNumber 8) (λ n. Made (kinds.Ack n)) k text → SpellsKind shapes.Ack k text
unfolding fields_bytes
ack_to k text h =
    subst (λ (v : FrameKind). SpellsKind shapes.Ack v text) (sym h.then_spelled.0) (record { is = h.spelled.0; shape = refl; whole = joined h.parts h.spelled.1 h.then_spelled.1 ∙ append-nil (big_bytes 8 h.first) })

ack_from : (k : FrameKind) (text : List ℕ) → SpellsKind shapes.Ack k text → Then (SpellsNumber 8) (λ n. Made (kinds.Ack n)) k text
unfolding fields_bytes
ack_from (kinds.Ack n) text h = record { first = n; front = big_bytes 8 n; back = []; parts = h.whole ∙ sym (append-nil (big_bytes 8 n)); spelled = (h.is, refl); then_spelled = (refl, refl) }
ack_from (kinds.Bind last force) text h = absurd (let e = h.shape in cc)
ack_from (kinds.Status session n last) text h = absurd (let e = h.shape in cc)
ack_from (kinds.Msg n index number dest message) text h = absurd (let e = h.shape in cc)
ack_from (kinds.End n count last) text h = absurd (let e = h.shape in cc)
ack_from (kinds.Err n reason) text h = absurd (let e = h.shape in cc)

Reads-ack : Reads ack_at (SpellsKind shapes.Ack)
unfolding ack_at
Reads-ack =
    Reads-told ack_at (Then (SpellsNumber 8) (λ n. Made (kinds.Ack n))) (SpellsKind shapes.Ack)
    (Reads-then (number_at 8) (SpellsNumber 8) (λ n bytes. Ok (kinds.Ack n, bytes)) (λ n. Made (kinds.Ack n)) (Reads-number 8) (λ n t p. Reads-pure (kinds.Ack n)))
    ack_to ack_from

-- ---- ERR

abbrev ErrOn : ℕ → FrameKind → List ℕ → Type 0
ErrOn n = Then (SpellsNumber 4) (λ reason. Made (kinds.Err n reason))

err_to : (k : FrameKind) (text : List ℕ) → Then (SpellsNumber 8) ErrOn k text → SpellsKind shapes.Err k text
unfolding fields_bytes
err_to k text h =
    let h2 = h.then_spelled in
    subst (λ (v : FrameKind). SpellsKind shapes.Err v text) (sym h2.then_spelled.0) (record { is = (h.spelled.0, h2.spelled.0); shape = refl; whole = joined h.parts h.spelled.1 (joined h2.parts h2.spelled.1 h2.then_spelled.1) })

err_from : (k : FrameKind) (text : List ℕ) → SpellsKind shapes.Err k text → Then (SpellsNumber 8) ErrOn k text
unfolding fields_bytes
err_from (kinds.Err n reason) text h = record {
  first = n;
  front = big_bytes 8 n;
  back = concat (big_bytes 4 reason ∷ []);
  parts = h.whole;
  spelled = (h.is.0, refl);
  then_spelled = record { first = reason; front = big_bytes 4 reason; back = []; parts = refl; spelled = (h.is.1, refl); then_spelled = (refl, refl) };
}
err_from (kinds.Bind last force) text h = absurd (let e = h.shape in cc)
err_from (kinds.Status session n last) text h = absurd (let e = h.shape in cc)
err_from (kinds.Msg n index number dest message) text h = absurd (let e = h.shape in cc)
err_from (kinds.End n count last) text h = absurd (let e = h.shape in cc)
err_from (kinds.Ack n) text h = absurd (let e = h.shape in cc)

Reads-err : Reads err_at (SpellsKind shapes.Err)
unfolding err_at
Reads-err =
    Reads-told err_at (Then (SpellsNumber 8) ErrOn) (SpellsKind shapes.Err)
    (Reads-then (number_at 8) (SpellsNumber 8) (λ n bytes. number_at 4 bytes >>= λ reason. Ok (kinds.Err n reason.0, reason.1)) ErrOn (Reads-number 8) (λ n t p.
    Reads-then (number_at 4) (SpellsNumber 4) (λ reason bytes. Ok (kinds.Err n reason, bytes)) (λ reason. Made (kinds.Err n reason)) (Reads-number 4) (λ reason u q.
    Reads-pure (kinds.Err n reason))))
    err_to err_from

-- ---- MSG

abbrev MsgOn4 : ℕ → ℕ → ℕ → ℕ → Dest → FrameKind → List ℕ → Type 0
MsgOn4 long n index number dest = Then (SpellsMessage long) (λ message. Made (kinds.Msg n index number dest message))

abbrev MsgOn3 : ℕ → ℕ → ℕ → ℕ → FrameKind → List ℕ → Type 0
MsgOn3 long n index number = Then SpellsDest (MsgOn4 long n index number)

abbrev MsgOn2 : ℕ → ℕ → ℕ → FrameKind → List ℕ → Type 0
MsgOn2 long n index = Then (SpellsNumber 4) (MsgOn3 long n index)

abbrev MsgOn1 : ℕ → ℕ → FrameKind → List ℕ → Type 0
MsgOn1 long n = Then SpellsPositive (MsgOn2 long n)

msg_to : (long : ℕ) (k : FrameKind) (text : List ℕ) → Then (SpellsNumber 8) (MsgOn1 long) k text → SpellsKind (shapes.Msg long) k text
unfolding fields_bytes
msg_to long k text h =
    let h2 = h.then_spelled in
    let h3 = h2.then_spelled in
    let h4 = h3.then_spelled in
    let h5 = h4.then_spelled in
    subst (λ (v : FrameKind). SpellsKind (shapes.Msg long) v text) (sym h5.then_spelled.0) (record {
      is = (h.spelled.0, h2.spelled.0, h2.spelled.1, h3.spelled.0, h4.spelled.0, h5.spelled.is, h5.spelled.no_route);
      shape = ap shapes.Msg h5.spelled.long_is;
      whole = joined h.parts h.spelled.1 (joined h2.parts h2.spelled.2 (joined h3.parts h3.spelled.1 (joined h4.parts h4.spelled.1 (joined h5.parts h5.spelled.whole h5.then_spelled.1))));
    })

msg_length : (a b : ℕ) → shapes.Msg a ≡ shapes.Msg b → a ≡ b
msg_length a b e = cc

msg_from : (long : ℕ) (k : FrameKind) (text : List ℕ) → SpellsKind (shapes.Msg long) k text → Then (SpellsNumber 8) (MsgOn1 long) k text
unfolding fields_bytes
msg_from long (kinds.Msg n index number dest message) text h = record {
  first = n;
  front = big_bytes 8 n;
  back = concat (big_bytes 4 index ∷ big_bytes 4 number ∷ dest_bytes dest ∷ message_bytes message ∷ []);
  parts = h.whole;
  spelled = (h.is.0, refl);
  then_spelled = record {
    first = index;
    front = big_bytes 4 index;
    back = concat (big_bytes 4 number ∷ dest_bytes dest ∷ message_bytes message ∷ []);
    parts = refl;
    spelled = (h.is.1, h.is.2, refl);
    then_spelled = record {
      first = number;
      front = big_bytes 4 number;
      back = concat (dest_bytes dest ∷ message_bytes message ∷ []);
      parts = refl;
      spelled = (h.is.3, refl);
      then_spelled = record {
        first = dest;
        front = dest_bytes dest;
        back = concat (message_bytes message ∷ []);
        parts = refl;
        spelled = (h.is.4, refl);
        then_spelled = record { first = message; front = message_bytes message; back = []; parts = refl; spelled = record { is = h.is.5; no_route = h.is.6; long_is = msg_length _ _ h.shape; whole = refl }; then_spelled = (refl, refl) };
      };
    };
  };
}
msg_from long (kinds.Bind last force) text h = absurd (let e = h.shape in cc)
msg_from long (kinds.Status session n last) text h = absurd (let e = h.shape in cc)
msg_from long (kinds.End n count last) text h = absurd (let e = h.shape in cc)
msg_from long (kinds.Ack n) text h = absurd (let e = h.shape in cc)
msg_from long (kinds.Err n reason) text h = absurd (let e = h.shape in cc)

Reads-msg : (long : ℕ) → long ≤ most_body → Reads (msg_at long) (SpellsKind (shapes.Msg long))
unfolding msg_at
Reads-msg long le =
    let k5 : ℕ → ℕ → ℕ → Dest → Message → List ℕ → Result (FrameKind × List ℕ) Miss = λ n index number dest message bytes. Ok (kinds.Msg n index number dest message, bytes) in
    let k4 : ℕ → ℕ → ℕ → Dest → List ℕ → Result (FrameKind × List ℕ) Miss = λ n index number dest bytes. message_at long bytes >>= λ x. k5 n index number dest x.0 x.1 in
    let k3 : ℕ → ℕ → ℕ → List ℕ → Result (FrameKind × List ℕ) Miss = λ n index number bytes. dest_at bytes >>= λ x. k4 n index number x.0 x.1 in
    let k2 : ℕ → ℕ → List ℕ → Result (FrameKind × List ℕ) Miss = λ n index bytes. number_at 4 bytes >>= λ x. k3 n index x.0 x.1 in
    let k1 : ℕ → List ℕ → Result (FrameKind × List ℕ) Miss = λ n bytes. positive_at bytes >>= λ x. k2 n x.0 x.1 in
    Reads-told (msg_at long) (Then (SpellsNumber 8) (MsgOn1 long)) (SpellsKind (shapes.Msg long))
    (Reads-then (number_at 8) (SpellsNumber 8) k1 (MsgOn1 long) (Reads-number 8) (λ n t1 p1.
    Reads-then positive_at SpellsPositive (k2 n) (MsgOn2 long n) Reads-positive (λ index t2 p2.
    Reads-then (number_at 4) (SpellsNumber 4) (k3 n index) (MsgOn3 long n index) (Reads-number 4) (λ number t3 p3.
    Reads-then dest_at SpellsDest (k4 n index number) (MsgOn4 long n index number) Reads-dest (λ dest t4 p4.
    Reads-then (message_at long) (SpellsMessage long) (k5 n index number dest) (λ message. Made (kinds.Msg n index number dest message)) (Reads-message long le) (λ message t5 p5.
    Reads-pure (kinds.Msg n index number dest message)))))))
    (msg_to long) (msg_from long)

-- ---- the fields of each shape

Reads-kind : (s : FrameShape) → IsShape s → Reads (kind_at s) (SpellsKind s)
Reads-kind shapes.Bind h = Reads-bind
Reads-kind shapes.Status h = Reads-status
Reads-kind (shapes.Msg long) h = Reads-msg long h
Reads-kind shapes.End h = Reads-end
Reads-kind shapes.Ack h = Reads-ack
Reads-kind shapes.Err h = Reads-err

-- ---- a frame

length_deadline : (d : Option ℕ) → length (deadline_bytes d) ≡ 8
unfolding deadline_bytes
length_deadline None = refl
length_deadline (Some n) = refl

-- how long a message is behind its names
length_message : (m : Message) → IsMessage m → m.route ≡ None → length (message_bytes m) ≡ 354 + length m.body
unfolding message_bytes ident_bytes route_bytes
length_message m h none =
    let p = md_given m.md h.md in
    let md : length (md_bytes m.md) ≡ 324 = ap length p.whole ∙ omega (arith, p.counted) in
    let route : length (route_bytes m.route) ≡ 1 = ap (λ (r : Option Dest). length (route_bytes r)) none in
    let deadline : length (deadline_bytes m.deadline) ≡ 8 = length_deadline m.deadline in
    let a = length-append (md_bytes m.md) (deadline_bytes m.deadline ++ (route_bytes m.route ++ (big_bytes 4 (length m.body) ++ (m.body ++ [])))) in
    let b = length-append (deadline_bytes m.deadline) (route_bytes m.route ++ (big_bytes 4 (length m.body) ++ (m.body ++ []))) in
    let c = length-append (route_bytes m.route) (big_bytes 4 (length m.body) ++ (m.body ++ [])) in
    let d = length-append m.body [] in
    omega (arith, md, route, deadline, a, b, c, d)

length_padded : (name : List ℕ) → length name ≤ 48 → length (padded 48 name) ≡ 48
length_padded name le = omega (arith, length-append name (replicate (48 - length name) 32), length-replicate {A = ℕ} (48 - length name) 32)

length_dest : (d : Dest) → IsDest d → length (dest_bytes d) ≡ 96
unfolding dest_bytes
length_dest d h =
    let q = length_padded d.queue h.queue.fits in
    let m = length_padded d.qmgr h.qmgr.fits in
    omega (arith, q, m, length-append (padded 48 d.queue) (padded 48 d.qmgr ++ []), length-append (padded 48 d.qmgr) [])

length_msg : (n index number : ℕ) (dest : Dest) (message : Message) → IsDest dest → IsMessage message → message.route ≡ None → length (fields_bytes (kinds.Msg n index number dest message)) + 17 ≡ 483 + length message.body
unfolding fields_bytes
length_msg n index number dest message hd hm none =
    let d = length_dest dest hd in
    let m = length_message message hm none in
    let a = length-append (dest_bytes dest) (message_bytes message ++ []) in
    let b = length-append (message_bytes message) [] in
    omega (arith, d, m, a, b)

length_fields : (k : FrameKind) → IsKind k → length (fields_bytes k) + 17 ≡ shape_length (shape_of_kind k)
unfolding fields_bytes
length_fields (kinds.Bind last force) h = refl
length_fields (kinds.Status session n last) h = refl
length_fields (kinds.Msg n index number dest message) h = length_msg n index number dest message h.4 h.5 h.6
length_fields (kinds.End n count last) h = refl
length_fields (kinds.Ack n) h = refl
length_fields (kinds.Err n reason) h = refl

pub length_content : (f : Frame) → IsKind f.kind → length (content_bytes f) ≡ shape_length (shape_of_kind f.kind)
unfolding content_bytes
length_content f h = omega (arith, length_fields f.kind h, length-append (fields_bytes f.kind) [])

shape_fits : (k : FrameKind) → IsKind k → IsShape (shape_of_kind k)
shape_fits (kinds.Bind last force) h = tt
shape_fits (kinds.Status session n last) h = tt
shape_fits (kinds.Msg n index number dest message) h = h.5.body
shape_fits (kinds.End n count last) h = tt
shape_fits (kinds.Ack n) h = tt
shape_fits (kinds.Err n reason) h = tt

number_is : (k : FrameKind) → shape_number (shape_of_kind k) ≡ kind_number k
number_is (kinds.Bind last force) = refl
number_is (kinds.Status session n last) = refl
number_is (kinds.Msg n index number dest message) = refl
number_is (kinds.End n count last) = refl
number_is (kinds.Ack n) = refl
number_is (kinds.Err n reason) = refl

abbrev pub SpellsFrame : Frame → List ℕ → Type 0
SpellsFrame f text = IsFrame f × (text ≡ frame_bytes f)

abbrev frame_made : ℕ → ℕ → FrameKind → Frame
frame_made stamp session kind = record { stamp = stamp; session = session; kind = kind }

abbrev is_number : FrameShape → Unit {0} → List ℕ → Type 0
is_number s u text = text ≡ shape_number s ∷ []

abbrev FrameOn4 : FrameShape → ℕ → ℕ → Frame → List ℕ → Type 0
FrameOn4 s stamp session = Then (SpellsKind s) (λ kind. Made (frame_made stamp session kind))

abbrev FrameOn3 : FrameShape → ℕ → Frame → List ℕ → Type 0
FrameOn3 s stamp = Then (SpellsNumber 8) (FrameOn4 s stamp)

abbrev FrameOn2 : FrameShape → Unit {0} → Frame → List ℕ → Type 0
FrameOn2 s u = Then (SpellsNumber 8) (FrameOn3 s)

abbrev FrameOn1 : FrameShape → Frame → List ℕ → Type 0
FrameOn1 s = Then (is_number s) (FrameOn2 s)

frame_to : (f : Frame) (text : List ℕ) → Then SpellsShape FrameOn1 f text → SpellsFrame f text
unfolding frame_bytes content_bytes
frame_to f text h =
    let h2 = h.then_spelled in
    let h3 = h2.then_spelled in
    let h4 = h3.then_spelled in
    let h5 = h4.then_spelled in
    let k = h5.first in
    let made = frame_made h3.first h4.first k in
    let number : shape_number h.first ∷ [] ≡ kind_number k ∷ [] = ap (λ (s : FrameShape). shape_number s ∷ []) (sym h5.spelled.shape) ∙ ap (λ (n : ℕ). n ∷ []) (number_is k) in
    let long : big_bytes 4 (shape_length h.first) ≡ big_bytes 4 (length (content_bytes made)) = ap (λ (s : FrameShape). big_bytes 4 (shape_length s)) (sym h5.spelled.shape) ∙ ap (big_bytes 4) (sym (length_content made h5.spelled.is)) in
    subst (λ (v : Frame). SpellsFrame v text) (sym h5.then_spelled.0) (
      record { stamp = h3.spelled.0; session = h4.spelled.0; kind = h5.spelled.is },
      joined h.parts (h.spelled.1 ∙ long) (joined h2.parts (h2.spelled ∙ number) (joined h3.parts h3.spelled.1 (joined h4.parts h4.spelled.1 (joined h5.parts h5.spelled.whole h5.then_spelled.1)))),
    )

frame_from : (f : Frame) (text : List ℕ) → SpellsFrame f text → Then SpellsShape FrameOn1 f text
unfolding frame_bytes content_bytes
frame_from f text h =
    let k = f.kind in
    let s = shape_of_kind k in
    let long : big_bytes 4 (length (content_bytes f)) ≡ big_bytes 4 (shape_length s) = ap (big_bytes 4) (length_content f h.0.kind) in
    let number : kind_number k ∷ [] ≡ shape_number s ∷ [] = ap (λ (n : ℕ). n ∷ []) (sym (number_is k)) in
    record {
      first = s;
      front = big_bytes 4 (length (content_bytes f));
      back = content_bytes f;
      parts = h.1;
      spelled = (shape_fits k h.0.kind, long);
      then_spelled = record {
        first = tt;
        front = kind_number k ∷ [];
        back = concat (big_bytes 8 f.stamp ∷ big_bytes 8 f.session ∷ fields_bytes k ∷ []);
        parts = refl;
        spelled = number;
        then_spelled = record {
          first = f.stamp;
          front = big_bytes 8 f.stamp;
          back = concat (big_bytes 8 f.session ∷ fields_bytes k ∷ []);
          parts = refl;
          spelled = (h.0.stamp, refl);
          then_spelled = record {
            first = f.session;
            front = big_bytes 8 f.session;
            back = concat (fields_bytes k ∷ []);
            parts = refl;
            spelled = (h.0.session, refl);
            then_spelled = record { first = k; front = fields_bytes k; back = []; parts = refl; spelled = record { is = h.0.kind; shape = refl; whole = refl }; then_spelled = (refl, refl) };
          };
        };
      };
    }

pub Reads-frame : Reads frame_at SpellsFrame
unfolding frame_at
Reads-frame =
    let k4 : FrameShape → ℕ → ℕ → List ℕ → Result (Frame × List ℕ) Miss = λ s stamp session bytes. kind_at s bytes >>= λ x. Ok (frame_made stamp session x.0, x.1) in
    let k3 : FrameShape → ℕ → List ℕ → Result (Frame × List ℕ) Miss = λ s stamp bytes. number_at 8 bytes >>= λ x. k4 s stamp x.0 x.1 in
    let k2 : FrameShape → List ℕ → Result (Frame × List ℕ) Miss = λ s bytes. number_at 8 bytes >>= λ x. k3 s x.0 x.1 in
    let k1 : FrameShape → List ℕ → Result (Frame × List ℕ) Miss = λ s bytes. fixed_at (shape_number s ∷ []) bytes >>= λ x. k2 s x.1 in
    Reads-told frame_at (Then SpellsShape FrameOn1) SpellsFrame
    (Reads-then shape_at SpellsShape k1 FrameOn1 Reads-shape (λ s t1 p1.
    Reads-then (fixed_at (shape_number s ∷ [])) (is_number s) (λ u. k2 s) (FrameOn2 s) (Reads-fixed (shape_number s ∷ [])) (λ u t2 p2.
    Reads-then (number_at 8) (SpellsNumber 8) (k3 s) (FrameOn3 s) (Reads-number 8) (λ stamp t3 p3.
    Reads-then (number_at 8) (SpellsNumber 8) (k4 s stamp) (FrameOn4 s stamp) (Reads-number 8) (λ session t4 p4.
    Reads-then (kind_at s) (SpellsKind s) (λ kind bytes. Ok (frame_made stamp session kind, bytes)) (λ kind. Made (frame_made stamp session kind)) (Reads-kind s p1.0) (λ kind t5 p5.
    Reads-pure (frame_made stamp session kind)))))))
    frame_to frame_from
