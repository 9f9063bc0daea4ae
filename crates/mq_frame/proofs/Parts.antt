-- The readers of a message and its parts.
use Rattle.std.proofs.Common.{◌≡◌, ℕ, ◌-◌, ◌^◌, ◌<◌, ◌≤◌, eqb, List, [], ◌∷◌, ◌++◌, length, Option, Some, None, Result, Ok, refl, sym, ap, subst, ◌∙◌, arith, inl, inr, lit<}
use Rattle.std.specs.Prelude.{IfSome}
use Rattle.std.specs.List.{concat}
use Rattle.std.proofs.lemmas.Bool.{cases_eq, eq-eqb, ne_eqb, cond-true, cond-false}
use Rattle.std.proofs.lemmas.List.{append-nil}
use Rattle.byteorder.specs.Endian.{big_bytes}
use Rattle.mq_message.specs.from_base.Name.{padded}
use Rattle.mq_message.specs.declared.message.Ident.{Ident}
use Rattle.mq_message.specs.declared.message.Dest.{Dest}
use Rattle.mq_message.specs.declared.message.Md.{Md}
use Rattle.mq_message.specs.declared.message.Message.{Message}
use Rattle.mq_frame.specs.declared.fault.Miss.{Miss}
use Rattle.mq_message.specs.Descriptor.{md_bytes, md_in}
use Rattle.mq_frame.specs.Frames.{most_body, ident_bytes, deadline_bytes, dest_bytes, route_bytes, message_bytes, IsIdent, IsDest, IsMd, IsMessage}
use Rattle.mq_frame.specs.Reading.{◌>>=◌, byte_at, fixed_at, number_at, piece_at, name_at, dest_at, ident_at, deadline_of, deadline_at, md_head, md_at, message_at}
use Rattle.mq_frame.proofs.Readers.{Reads, Then, Reads-then, Reads-told, Reads-pure}
use Rattle.mq_frame.proofs.Pieces.{InRange, IsPiece, IsLong, SpellsNumber, Reads-byte, Reads-fixed, Reads-piece, Reads-body, Reads-number}
use Rattle.mq_frame.proofs.Names.{SpellsName, Reads-name}
use Rattle.mq_frame.proofs.Descriptor.{md_taken, md_given}

-- a value that is made of what was read, and takes no more bytes
abbrev pub Made : {A : Type 0} → A → A → List ℕ → Type 0
Made a b text = (b ≡ a) × (text ≡ [])

pub joined : {t f b x y : List ℕ} → t ≡ f ++ b → f ≡ x → b ≡ y → t ≡ x ++ y
joined {t = t} {f = f} {b = b} {x = x} {y = y} e p q = e ∙ ap (λ (z : List ℕ). z ++ b) p ∙ ap (λ (z : List ℕ). x ++ z) q

-- ---- where a message goes

abbrev pub SpellsDest : Dest → List ℕ → Type 0
SpellsDest d text = IsDest d × (text ≡ dest_bytes d)

abbrev dest_made : List ℕ → List ℕ → Dest
dest_made queue qmgr = record { queue = queue; qmgr = qmgr }

pub Reads-dest : Reads dest_at SpellsDest
unfolding dest_at dest_bytes
Reads-dest =
    Reads-told dest_at (Then SpellsName (λ queue. Then SpellsName (λ qmgr. Made (dest_made queue qmgr)))) SpellsDest
    (Reads-then name_at SpellsName (λ queue bytes. name_at bytes >>= λ qmgr. Ok (dest_made queue qmgr.0, qmgr.1)) (λ queue. Then SpellsName (λ qmgr. Made (dest_made queue qmgr))) Reads-name (λ queue s p.
    Reads-then name_at SpellsName (λ qmgr bytes. Ok (dest_made queue qmgr, bytes)) (λ qmgr. Made (dest_made queue qmgr)) Reads-name (λ qmgr t q.
    Reads-pure (dest_made queue qmgr))))
    (λ d text h.
    let g = h.then_spelled in
    subst (λ (v : Dest). SpellsDest v text) (sym g.then_spelled.0) (record { queue = h.spelled.0; qmgr = g.spelled.0 }, joined h.parts h.spelled.1 (joined g.parts g.spelled.1 g.then_spelled.1)))
    (λ d text h. record {
      first = d.queue;
      front = padded 48 d.queue;
      back = concat (padded 48 d.qmgr ∷ []);
      parts = h.1;
      spelled = (h.0.queue, refl);
      then_spelled = record { first = d.qmgr; front = padded 48 d.qmgr; back = []; parts = refl; spelled = (h.0.qmgr, refl); then_spelled = (refl, refl) };
    })

-- ---- what a message is known by

abbrev pub SpellsIdent : Ident → List ℕ → Type 0
SpellsIdent i text = IsIdent i × (text ≡ ident_bytes i)

abbrev ident_made : ℕ → ℕ → ℕ → Ident
ident_made manager incarnation number = record { manager = manager; incarnation = incarnation; number = number }

pub Reads-ident : Reads ident_at SpellsIdent
unfolding ident_at ident_bytes
Reads-ident =
    let S3 : ℕ → ℕ → ℕ → Ident → List ℕ → Type 0 = λ m i n. Made (ident_made m i n) in
    let S2 : ℕ → ℕ → Ident → List ℕ → Type 0 = λ m i. Then (SpellsNumber 8) (S3 m i) in
    let S1 : ℕ → Ident → List ℕ → Type 0 = λ m. Then (SpellsNumber 8) (S2 m) in
    Reads-told ident_at (Then (InRange 0 255) S1) SpellsIdent
    (Reads-then (byte_at 0 255) (InRange 0 255) (λ m bytes. number_at 8 bytes >>= λ i. number_at 8 i.1 >>= λ n. Ok (ident_made m i.0 n.0, n.1)) S1 (Reads-byte 0 255 (omega arith)) (λ m s p.
    Reads-then (number_at 8) (SpellsNumber 8) (λ i bytes. number_at 8 bytes >>= λ n. Ok (ident_made m i n.0, n.1)) (S2 m) (Reads-number 8) (λ i t q.
    Reads-then (number_at 8) (SpellsNumber 8) (λ n bytes. Ok (ident_made m i n, bytes)) (S3 m i) (Reads-number 8) (λ n u r.
    Reads-pure (ident_made m i n)))))
    (λ d text h.
    let g = h.then_spelled in
    let f = g.then_spelled in
    subst (λ (v : Ident). SpellsIdent v text) (sym f.then_spelled.0) (record { manager = omega (arith, h.spelled.1); incarnation = g.spelled.0; number = f.spelled.0 }, joined h.parts h.spelled.2 (joined g.parts g.spelled.1 (joined f.parts f.spelled.1 f.then_spelled.1))))
    (λ d text h. record {
      first = d.manager;
      front = d.manager ∷ [];
      back = concat (big_bytes 8 d.incarnation ∷ big_bytes 8 d.number ∷ []);
      parts = h.1;
      spelled = (omega arith, omega (arith, h.0.manager), refl);
      then_spelled = record {
        first = d.incarnation;
        front = big_bytes 8 d.incarnation;
        back = concat (big_bytes 8 d.number ∷ []);
        parts = refl;
        spelled = (h.0.incarnation, refl);
        then_spelled = record { first = d.number; front = big_bytes 8 d.number; back = []; parts = refl; spelled = (h.0.number, refl); then_spelled = (refl, refl) };
      };
    })

-- ---- a deadline

abbrev pub SpellsDeadline : Option ℕ → List ℕ → Type 0
SpellsDeadline d text = IfSome d (λ moment. moment < 2 ^ 64 - 1) × (text ≡ deadline_bytes d)

deadline_spells : (n : ℕ) → n < 256 ^ 8 → SpellsDeadline (deadline_of n) (big_bytes 8 n)
unfolding deadline_bytes
deadline_spells n lt =
    elim (cases_eq n (2 ^ 64 - 1)) [
      | inl e ↦ subst (λ (d : Option ℕ). SpellsDeadline d (big_bytes 8 n)) (sym (cond-true (eqb n (2 ^ 64 - 1)) None (Some n) (eq-eqb _ _ e))) (tt, ap (big_bytes 8) e)
      | inr ne ↦ subst (λ (d : Option ℕ). SpellsDeadline d (big_bytes 8 n)) (sym (cond-false (eqb n (2 ^ 64 - 1)) None (Some n) (ne_eqb _ _ ne))) (omega (arith, ne, lt), refl)
    ]

deadline_from : (d : Option ℕ) (text : List ℕ) → SpellsDeadline d text → Then (SpellsNumber 8) (λ n. Made (deadline_of n)) d text
unfolding deadline_bytes
deadline_from None text h = record { first = 2 ^ 64 - 1; front = big_bytes 8 (2 ^ 64 - 1); back = []; parts = h.1 ∙ sym (append-nil (big_bytes 8 (2 ^ 64 - 1))); spelled = (lit< tt, refl); then_spelled = (refl, refl) }
deadline_from (Some n) text h =
    let ne : n ≡ 2 ^ 64 - 1 → ⊥ = λ e. omega (arith, e, h.0) in
    record { first = n; front = big_bytes 8 n; back = []; parts = h.1 ∙ sym (append-nil (big_bytes 8 n)); spelled = (omega (arith, h.0), refl); then_spelled = (sym (cond-false (eqb n (2 ^ 64 - 1)) None (Some n) (ne_eqb _ _ ne)), refl) }

pub Reads-deadline : Reads deadline_at SpellsDeadline
unfolding deadline_at deadline_bytes
Reads-deadline =
    Reads-told deadline_at (Then (SpellsNumber 8) (λ n. Made (deadline_of n))) SpellsDeadline
    (Reads-then (number_at 8) (SpellsNumber 8) (λ n bytes. Ok (deadline_of n, bytes)) (λ n. Made (deadline_of n)) (Reads-number 8) (λ n s p. Reads-pure (deadline_of n)))
    (λ d text h.
    let s = deadline_spells h.first h.spelled.0 in
    let whole : text ≡ big_bytes 8 h.first = joined h.parts h.spelled.1 h.then_spelled.1 ∙ append-nil (big_bytes 8 h.first) in
    subst (λ (v : Option ℕ). SpellsDeadline v text) (sym h.then_spelled.0) (s.0, whole ∙ s.1))
    (λ d text h. deadline_from d text h)

-- ---- a descriptor

abbrev pub SpellsMd : Md → List ℕ → Type 0
SpellsMd m text = IsMd m × (text ≡ md_bytes m)

abbrev head_spelled : Unit {0} → List ℕ → Type 0
head_spelled u text = text ≡ md_head

pub Reads-md : Reads md_at SpellsMd
unfolding md_at
Reads-md =
    let made : List ℕ → Md = λ fields. md_in (md_head ++ fields) in
    let S1 : Unit {0} → Md → List ℕ → Type 0 = λ u. Then (IsPiece 316) (λ fields. Made (made fields)) in
    Reads-told md_at (Then head_spelled S1) SpellsMd
    (Reads-then (fixed_at md_head) head_spelled (λ u bytes. piece_at 316 bytes >>= λ fields. Ok (made fields.0, fields.1)) S1 (Reads-fixed md_head) (λ u s p.
    Reads-then (piece_at 316) (IsPiece 316) (λ fields bytes. Ok (made fields, bytes)) (λ fields. Made (made fields)) (Reads-piece 316) (λ fields t q.
    Reads-pure (made fields))))
    (λ m text h.
    let g = h.then_spelled in
    let fields = g.first in
    let k = md_taken fields g.spelled.0 g.spelled.1 in
    let whole : text ≡ md_head ++ fields = joined h.parts h.spelled (joined g.parts g.spelled.2 g.then_spelled.1) ∙ ap (λ (z : List ℕ). md_head ++ z) (append-nil fields) in
    subst (λ (v : Md). SpellsMd v text) (sym g.then_spelled.0) (k.0, whole ∙ sym k.1))
    (λ m text h.
    let p = md_given m h.0 in
    record {
      first = tt;
      front = md_head;
      back = p.fields ++ [];
      parts = h.1 ∙ p.whole ∙ ap (λ (z : List ℕ). md_head ++ z) (sym (append-nil p.fields));
      spelled = refl;
      then_spelled = record { first = p.fields; front = p.fields; back = []; parts = refl; spelled = (p.counted, p.bytes, refl); then_spelled = (sym p.back, refl) };
    })

-- ---- a message without a route

pub record SpellsMessage (long : ℕ) (m : Message) (text : List ℕ) : Type 0 where
  pub is : IsMessage m
  pub no_route : m.route ≡ None
  pub long_is : length m.body ≡ long
  pub whole : text ≡ message_bytes m

abbrev message_made : Ident → Md → Option ℕ → List ℕ → Message
message_made ident md deadline body = record { ident = ident; md = md; route = None; deadline = deadline; body = body }

abbrev is_fixed : List ℕ → Unit {0} → List ℕ → Type 0
is_fixed ws u text = text ≡ ws

abbrev MS6 : Ident → Md → Option ℕ → List ℕ → Message → List ℕ → Type 0
MS6 i m d body = Made (message_made i m d body)

abbrev MS5 : ℕ → Ident → Md → Option ℕ → Unit {0} → Message → List ℕ → Type 0
MS5 long i m d u = Then (IsLong long) (MS6 i m d)

abbrev MS4 : ℕ → Ident → Md → Option ℕ → Unit {0} → Message → List ℕ → Type 0
MS4 long i m d u = Then (is_fixed (big_bytes 4 long)) (MS5 long i m d)

abbrev MS3 : ℕ → Ident → Md → Option ℕ → Message → List ℕ → Type 0
MS3 long i m d = Then (is_fixed (0 ∷ [])) (MS4 long i m d)

abbrev MS2 : ℕ → Ident → Md → Message → List ℕ → Type 0
MS2 long i m = Then SpellsDeadline (MS3 long i m)

abbrev MS1 : ℕ → Ident → Message → List ℕ → Type 0
MS1 long i = Then SpellsMd (MS2 long i)

message_to : (long : ℕ) → long ≤ most_body → (m : Message) (text : List ℕ) → Then SpellsIdent (MS1 long) m text → SpellsMessage long m text
unfolding message_bytes route_bytes
message_to long le m text h =
    let h2 = h.then_spelled in
    let h3 = h2.then_spelled in
    let h4 = h3.then_spelled in
    let h5 = h4.then_spelled in
    let h6 = h5.then_spelled in
    let counted : big_bytes 4 long ≡ big_bytes 4 (length h6.first) = ap (big_bytes 4) (sym h6.spelled.0) in
    subst (λ (v : Message). SpellsMessage long v text) (sym h6.then_spelled.0) (record {
      is = record { ident = h.spelled.0; md = h2.spelled.0; deadline = h3.spelled.0; route = tt; body = omega (arith, h6.spelled.0) };
      no_route = refl;
      long_is = h6.spelled.0;
      whole = joined h.parts h.spelled.1 (joined h2.parts h2.spelled.1 (joined h3.parts h3.spelled.1 (joined h4.parts h4.spelled (joined h5.parts (h5.spelled ∙ counted) (joined h6.parts h6.spelled.1 h6.then_spelled.1)))));
    })

message_from : (long : ℕ) (m : Message) (text : List ℕ) → SpellsMessage long m text → Then SpellsIdent (MS1 long) m text
unfolding message_bytes route_bytes
message_from long m text h =
    let counted : big_bytes 4 (length m.body) ≡ big_bytes 4 long = ap (big_bytes 4) h.long_is in
    let none : route_bytes m.route ≡ 0 ∷ [] = ap route_bytes h.no_route in
    let made : m ≡ message_made m.ident m.md m.deadline m.body = ap (λ (r : Option Dest). record { ident = m.ident; md = m.md; route = r; deadline = m.deadline; body = m.body }) h.no_route in
    record {
      first = m.ident;
      front = ident_bytes m.ident;
      back = concat (md_bytes m.md ∷ deadline_bytes m.deadline ∷ route_bytes m.route ∷ big_bytes 4 (length m.body) ∷ m.body ∷ []);
      parts = h.whole;
      spelled = (h.is.ident, refl);
      then_spelled = record {
        first = m.md;
        front = md_bytes m.md;
        back = concat (deadline_bytes m.deadline ∷ route_bytes m.route ∷ big_bytes 4 (length m.body) ∷ m.body ∷ []);
        parts = refl;
        spelled = (h.is.md, refl);
        then_spelled = record {
          first = m.deadline;
          front = deadline_bytes m.deadline;
          back = concat (route_bytes m.route ∷ big_bytes 4 (length m.body) ∷ m.body ∷ []);
          parts = refl;
          spelled = (h.is.deadline, refl);
          then_spelled = record {
            first = tt;
            front = route_bytes m.route;
            back = concat (big_bytes 4 (length m.body) ∷ m.body ∷ []);
            parts = refl;
            spelled = none;
            then_spelled = record {
              first = tt;
              front = big_bytes 4 (length m.body);
              back = concat (m.body ∷ []);
              parts = refl;
              spelled = counted;
              then_spelled = record { first = m.body; front = m.body; back = []; parts = refl; spelled = (h.long_is, refl); then_spelled = (made, refl) };
            };
          };
        };
      };
    }

pub Reads-message : (long : ℕ) → long ≤ most_body → Reads (message_at long) (SpellsMessage long)
unfolding message_at
Reads-message long le =
    let k6 : Ident → Md → Option ℕ → List ℕ → List ℕ → Result (Message × List ℕ) Miss = λ i m d body bytes. Ok (message_made i m d body, bytes) in
    let k5 : Ident → Md → Option ℕ → List ℕ → Result (Message × List ℕ) Miss = λ i m d bytes. piece_at long bytes >>= λ x. k6 i m d x.0 x.1 in
    let k4 : Ident → Md → Option ℕ → List ℕ → Result (Message × List ℕ) Miss = λ i m d bytes. fixed_at (big_bytes 4 long) bytes >>= λ x. k5 i m d x.1 in
    let k3 : Ident → Md → Option ℕ → List ℕ → Result (Message × List ℕ) Miss = λ i m d bytes. fixed_at (0 ∷ []) bytes >>= λ x. k4 i m d x.1 in
    let k2 : Ident → Md → List ℕ → Result (Message × List ℕ) Miss = λ i m bytes. deadline_at bytes >>= λ x. k3 i m x.0 x.1 in
    let k1 : Ident → List ℕ → Result (Message × List ℕ) Miss = λ i bytes. md_at bytes >>= λ x. k2 i x.0 x.1 in
    Reads-told (message_at long) (Then SpellsIdent (MS1 long)) (SpellsMessage long)
    (Reads-then ident_at SpellsIdent k1 (MS1 long) Reads-ident (λ i t1 p1.
    Reads-then md_at SpellsMd (k2 i) (MS2 long i) Reads-md (λ m t2 p2.
    Reads-then deadline_at SpellsDeadline (k3 i m) (MS3 long i m) Reads-deadline (λ d t3 p3.
    Reads-then (fixed_at (0 ∷ [])) (is_fixed (0 ∷ [])) (λ u. k4 i m d) (MS4 long i m d) (Reads-fixed (0 ∷ [])) (λ u t4 p4.
    Reads-then (fixed_at (big_bytes 4 long)) (is_fixed (big_bytes 4 long)) (λ u. k5 i m d) (MS5 long i m d) (Reads-fixed (big_bytes 4 long)) (λ u t5 p5.
    Reads-then (piece_at long) (IsLong long) (k6 i m d) (MS6 i m d) (Reads-body long) (λ body t6 p6.
    Reads-pure (message_made i m d body))))))))
    (message_to long le) (message_from long)
