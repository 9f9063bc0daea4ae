-- The reader of a frame's length.
use Rattle.std.proofs.Common.{◌≡◌, ℕ, zero, suc, ◌+◌, ◌-◌, ◌<◌, ◌≤◌, Bool, true, false, cond, ◌&&◌, eqb, leb, List, [], ◌∷◌, ◌++◌, length, Option, Some, None, Result, Ok, Err, refl, sym, ap, subst, ◌∙◌, arith, inl, inr, lit<, lit≤}
use Rattle.std.proofs.lemmas.Bool.{cases_eq, eqb-true, eq-eqb, ne_eqb, le-leb, leb-true, and_parts, and_from, cond-true, cond-false}
use Rattle.std.specs.Int.{byte_at}
use Rattle.byteorder.specs.Endian.{big_bytes, big_number}
use Rattle.byteorder.specs.Numbers.{big_number-reads_back}
use Rattle.mq_message.proofs.from_base.Numbers.{big_number_gives_back}
use Rattle.mq_frame.specs.declared.fault.Miss.{Miss}
use Rattle.mq_frame.specs.declared.fault.Miss.TheVariants.{Short, Wrong}
use Rattle.mq_frame.specs.declared.shape.FrameShape.{FrameShape}
use Rattle.mq_frame.specs.declared.shape.FrameShape.TheVariants as shapes
use Rattle.mq_frame.specs.Frames.{most_body}
use Rattle.mq_frame.specs.Reading.{◌>>=◌, IsBytes, byte_at as one_byte_at, shape_of, third_most, shaped, last_at, shape_at}
use Rattle.mq_frame.proofs.Readers.{one_ok, ok_err, short_wrong, one_wrong, Reads, Begins, Then, Reads-then, Reads-told}
use Rattle.mq_frame.proofs.Pieces.{InRange, Reads-byte, four}
use Rattle.mq_frame.proofs.Parts.{joined}

-- how long a frame of the shape is behind its length
abbrev pub shape_length : FrameShape → ℕ
shape_length shapes.Bind = 22
shape_length shapes.Status = 37
shape_length (shapes.Msg long) = 483 + long
shape_length shapes.End = 33
shape_length shapes.Ack = 25
shape_length shapes.Err = 29

abbrev pub IsShape : FrameShape → Type 0
IsShape shapes.Bind = Unit {0}
IsShape shapes.Status = Unit {0}
IsShape (shapes.Msg long) = long ≤ most_body
IsShape shapes.End = Unit {0}
IsShape shapes.Ack = Unit {0}
IsShape shapes.Err = Unit {0}

abbrev pub SpellsShape : FrameShape → List ℕ → Type 0
SpellsShape s text = IsShape s × (text ≡ big_bytes 4 (shape_length s))

-- a number is the length of the shape that it has
record HasShape (n : ℕ) (s : FrameShape) : Type 0 where
  pub is : IsShape s
  pub same : n ≡ shape_length s

abbrev Shaped : ℕ → Option FrameShape → Type 0
Shaped n None = Unit {0}
Shaped n (Some s) = HasShape n s

shaped_cond : (n : ℕ) (b : Bool) (x y : Option FrameShape) → (b ≡ true → Shaped n x) → (b ≡ false → Shaped n y) → Shaped n (cond b x y)
shaped_cond n true x y p q = p refl
shaped_cond n false x y p q = q refl

shape_holds : (n : ℕ) → Shaped n (shape_of n)
shape_holds n =
    shaped_cond n (eqb n 22) _ _ (λ e. record { is = tt; same = eqb-true _ _ e }) (λ e1.
    shaped_cond n (eqb n 37) _ _ (λ e. record { is = tt; same = eqb-true _ _ e }) (λ e2.
    shaped_cond n (eqb n 33) _ _ (λ e. record { is = tt; same = eqb-true _ _ e }) (λ e3.
    shaped_cond n (eqb n 25) _ _ (λ e. record { is = tt; same = eqb-true _ _ e }) (λ e4.
    shaped_cond n (eqb n 29) _ _ (λ e. record { is = tt; same = eqb-true _ _ e }) (λ e5.
    shaped_cond n (leb 483 n && leb n (483 + most_body)) _ _ (λ e.
    let h = and_parts (leb 483 n) (leb n (483 + most_body)) e in
    let low = leb-true _ _ h.0 in
    let high = leb-true _ _ h.1 in
    record { is = omega arith; same = omega arith }) (λ e6. tt))))))

shape_is : (n : ℕ) (s : FrameShape) → shape_of n ≡ Some s → HasShape n s
shape_is n s e = subst (Shaped n) e (shape_holds n)

-- the tests of a length, from the last on
abbrev long_one : ℕ → Option FrameShape
long_one n = cond (leb 483 n && leb n (483 + most_body)) (Some (shapes.Msg (n - 483))) None

abbrev err_on : ℕ → Option FrameShape
err_on n = cond (eqb n 29) (Some shapes.Err) (long_one n)

abbrev ack_on : ℕ → Option FrameShape
ack_on n = cond (eqb n 25) (Some shapes.Ack) (err_on n)

abbrev end_on : ℕ → Option FrameShape
end_on n = cond (eqb n 33) (Some shapes.End) (ack_on n)

abbrev status_on : ℕ → Option FrameShape
status_on n = cond (eqb n 37) (Some shapes.Status) (end_on n)

msg_shape : (long n : ℕ) → long ≤ most_body → n ≡ 483 + long → shape_of n ≡ Some (shapes.Msg long)
msg_shape long n le e =
    let back : n - 483 ≡ long = omega arith in
    cond-false (eqb n 22) (Some shapes.Bind) (status_on n) (ne_eqb _ _ (λ p. omega arith))
    ∙ cond-false (eqb n 37) (Some shapes.Status) (end_on n) (ne_eqb _ _ (λ p. omega arith))
    ∙ cond-false (eqb n 33) (Some shapes.End) (ack_on n) (ne_eqb _ _ (λ p. omega arith))
    ∙ cond-false (eqb n 25) (Some shapes.Ack) (err_on n) (ne_eqb _ _ (λ p. omega arith))
    ∙ cond-false (eqb n 29) (Some shapes.Err) (long_one n) (ne_eqb _ _ (λ p. omega arith))
    ∙ cond-true (leb 483 n && leb n (483 + most_body)) (Some (shapes.Msg (n - 483))) None (and_from (leb 483 n) (leb n (483 + most_body)) (le-leb 483 n (omega arith)) (le-leb n (483 + most_body) (omega arith)))
    ∙ ap (λ (k : ℕ). Some (shapes.Msg k)) back

shape_again : (s : FrameShape) → IsShape s → shape_of (shape_length s) ≡ Some s
shape_again shapes.Bind h = refl
shape_again shapes.Status h = refl
shape_again (shapes.Msg long) h = msg_shape long (483 + long) h refl
shape_again shapes.End h = refl
shape_again shapes.Ack h = refl
shape_again shapes.Err h = refl

shape_small : (s : FrameShape) → IsShape s → shape_length s ≤ 483 + most_body
shape_small shapes.Bind h = lit≤ tt
shape_small shapes.Status h = lit≤ tt
shape_small (shapes.Msg long) h = omega arith
shape_small shapes.End h = lit≤ tt
shape_small shapes.Ack h = lit≤ tt
shape_small shapes.Err h = lit≤ tt

-- ---- the last byte

abbrev number_of : ℕ → ℕ → ℕ → ℕ → ℕ
number_of a b c d = big_number 4 (a ∷ b ∷ c ∷ d ∷ [])

record SpellsLast (a b c : ℕ) (s : FrameShape) (text : List ℕ) : Type 0 where
  pub last : ℕ
  pub small : last < 256
  pub whole : text ≡ last ∷ []
  pub is : shape_of (number_of a b c last) ≡ Some s

record SomeLast (a b c : ℕ) : Type 0 where
  pub last : ℕ
  pub shape : FrameShape
  pub small : last < 256
  pub is : shape_of (number_of a b c last) ≡ Some shape

third_cases : (b c : ℕ) → c ≤ third_most b → (b ≡ 64 → c ≤ 1) × (c ≤ 255)
third_cases b c h =
    elim (cases_eq b 64) [
      | inl e ↦ let k : c ≤ 1 = subst (λ (n : ℕ). c ≤ n) (cond-true (eqb b 64) 1 255 (eq-eqb _ _ e)) h in (λ p. k, omega arith)
      | inr ne ↦ let k : c ≤ 255 = subst (λ (n : ℕ). c ≤ n) (cond-false (eqb b 64) 1 255 (ne_eqb _ _ ne)) h in (λ p. absurd (ne p), k)
    ]

below_most : (b c : ℕ) → suc b ≤ 64 → (suc b ≡ 64 → c ≤ 1) → c ≤ 255 → number_of 0 (suc b) c 0 - 483 ≤ most_body
below_most b c p top q =
    elim (cases_eq (suc b) 64) [
      | inl e ↦ let k = top e in omega arith
      | inr ne ↦ let k : suc b ≤ 63 = omega arith in omega arith
    ]

some_last : (b c : ℕ) → b ≤ 64 → c ≤ third_most b → SomeLast 0 b c
some_last zero zero p q = record { last = 22; shape = shapes.Bind; small = lit< tt; is = refl }
some_last zero (suc zero) p q = record { last = 255; shape = shapes.Msg 28; small = lit< tt; is = refl }
some_last zero (suc (suc c)) p q = record { last = 0; shape = shapes.Msg (number_of 0 0 (suc (suc c)) 0 - 483); small = lit< tt; is = msg_shape _ (number_of 0 0 (suc (suc c)) 0) (omega (arith, q)) (omega (arith, q)) }
some_last (suc b) c p q =
    let top : (suc b ≡ 64 → c ≤ 1) × (c ≤ 255) = third_cases (suc b) c q in
    record { last = 0; shape = shapes.Msg (number_of 0 (suc b) c 0 - 483); small = lit< tt; is = msg_shape _ (number_of 0 (suc b) c 0) (below_most b c p top.0 top.1) (omega (arith, p, top.1)) }

-- ---- what the last byte makes of a length

data Last (a b c : ℕ) (bytes : List ℕ) (r : Result (FrameShape × List ℕ) Miss) : Type 0 where
  none : bytes ≡ [] → r ≡ Err Short → Last a b c bytes r
  good : (d : ℕ) (s : FrameShape) (rest : List ℕ) → bytes ≡ d ∷ rest → shape_of (number_of a b c d) ≡ Some s → r ≡ Ok (s, rest) → Last a b c bytes r
  bad : (d : ℕ) (rest : List ℕ) → bytes ≡ d ∷ rest → shape_of (number_of a b c d) ≡ None → r ≡ Err (Wrong (length rest + 1)) → Last a b c bytes r

last_shaped : (a b c d : ℕ) (rest : List ℕ) (o : Option FrameShape) → shape_of (number_of a b c d) ≡ o → Last a b c (d ∷ rest) (shaped o rest)
last_shaped a b c d rest None e = bad d rest refl e refl
last_shaped a b c d rest (Some s) e = good d s rest refl e refl

last_cases : (a b c : ℕ) (bytes : List ℕ) → Last a b c bytes (last_at a b c bytes)
last_cases a b c [] = none refl refl
last_cases a b c (d ∷ rest) = last_shaped a b c d rest (shape_of (number_of a b c d)) refl

begins_last : (a b c : ℕ) → SomeLast a b c → Begins (SpellsLast a b c) []
begins_last a b c s = record { value = s.shape; next = s.last; more = []; spelled = record { last = s.last; small = s.small; whole = refl; is = s.is } }

none_some : (s : FrameShape) (o : Option FrameShape) → o ≡ None → o ≡ Some s → ⊥
none_some s None p q = absurd cc
none_some s (Some t) p q = absurd cc

Reads-last : (a b c : ℕ) → SomeLast a b c → Reads (last_at a b c) (SpellsLast a b c)
Reads-last a b c some = record {
  some = record { value = some.shape; text = some.last ∷ []; spelled = record { last = some.last; small = some.small; whole = refl; is = some.is } };
  got = λ bytes s rest fits e. elim (last_cases a b c bytes) [
    | none p q ↦ absurd (ok_err _ _ _ e q)
    | good d t after p q r ↦
        let same = one_ok _ t s after rest r e in
        record {
          text = d ∷ [];
          parts = p ∙ ap (λ (x : List ℕ). d ∷ x) same.1;
          spelled = record { last = d; small = subst IsBytes p fits 0; whole = refl; is = q ∙ ap (λ (x : FrameShape). Some x) same.0 };
        }
    | bad d after p q r ↦ absurd (ok_err _ _ _ e r)
  ];
  short = λ bytes fits e. elim (last_cases a b c bytes) [
    | none p q ↦ subst (Begins (SpellsLast a b c)) (sym p) (begins_last a b c some)
    | good d t after p q r ↦ absurd (ok_err _ _ _ r e)
    | bad d after p q r ↦ absurd (short_wrong _ _ e r)
  ];
  wrong = λ bytes left fits e. elim (last_cases a b c bytes) [
    | none p q ↦ absurd (short_wrong _ _ q e)
    | good d t after p q r ↦ absurd (ok_err _ _ _ r e)
    | bad d after p q r ↦ record {
      before = [];
      byte = d;
      behind = after;
      parts = p;
      counted = one_wrong _ _ _ e r ∙ (omega arith);
      begins = begins_last a b c some;
      never = λ s text rest more h g.
          let t : h.last ∷ rest ≡ d ∷ more = ap (λ (x : List ℕ). x ++ rest) (sym h.whole) ∙ g in
          let same : h.last ≡ d = cc in
          none_some s _ (ap (λ (x : ℕ). shape_of (number_of a b c x)) same ∙ q) h.is;
    }
  ];
  again = λ s text rest h. ap (λ (x : List ℕ). last_at a b c (x ++ rest)) h.whole ∙ ap (λ (o : Option FrameShape). shaped o rest) h.is;
}

-- ---- the four bytes

abbrev LengthFrom2 : ℕ → ℕ → FrameShape → List ℕ → Type 0
LengthFrom2 a b = Then (InRange 0 (third_most b)) (λ c. SpellsLast a b c)

abbrev LengthFrom1 : ℕ → FrameShape → List ℕ → Type 0
LengthFrom1 a = Then (InRange 0 64) (LengthFrom2 a)

shape_to : (s : FrameShape) (text : List ℕ) → Then (InRange 0 0) LengthFrom1 s text → SpellsShape s text
shape_to s text h =
    let h2 = h.then_spelled in
    let h3 = h2.then_spelled in
    let h4 = h3.then_spelled in
    let a = h.first in
    let b = h2.first in
    let c = h3.first in
    let d = h4.last in
    let top = third_cases b c h3.spelled.1 in
    let whole : text ≡ a ∷ b ∷ c ∷ d ∷ [] = joined h.parts h.spelled.2 (joined h2.parts h2.spelled.2 (joined h3.parts h3.spelled.2 h4.whole)) in
    let bytes : IsBytes (a ∷ b ∷ c ∷ d ∷ []) = four a b c d (omega (arith, h.spelled.1)) (omega (arith, h2.spelled.1)) (omega (arith, top.1)) h4.small in
    let is = shape_is (number_of a b c d) s h4.is in
    (is.is, whole ∙ sym (big_number_gives_back 4 (a ∷ b ∷ c ∷ d ∷ []) refl bytes) ∙ ap (big_bytes 4) is.same)

-- the bytes of a length stand in their ranges
record InOrder (n : ℕ) : Type 0 where
  pub top : byte_at 3 n ≡ 0
  pub second : byte_at 2 n ≤ 64
  pub third : byte_at 1 n ≤ third_most (byte_at 2 n)
  pub last : byte_at 0 n < 256

in_order : (n : ℕ) → n ≤ 483 + most_body → InOrder n
in_order n le = record {
  top = omega arith;
  second = omega arith;
  third = elim (cases_eq (byte_at 2 n) 64) [
    | inl e ↦ subst (λ (k : ℕ). byte_at 1 n ≤ k) (sym (cond-true (eqb (byte_at 2 n) 64) 1 255 (eq-eqb _ _ e))) (omega arith)
    | inr ne ↦ subst (λ (k : ℕ). byte_at 1 n ≤ k) (sym (cond-false (eqb (byte_at 2 n) 64) 1 255 (ne_eqb _ _ ne))) (omega arith)
  ];
  last = omega arith;
}

shape_from : (s : FrameShape) (text : List ℕ) → SpellsShape s text → Then (InRange 0 0) LengthFrom1 s text
shape_from s text h =
    let n = shape_length s in
    let small = shape_small s h.0 in
    let o = in_order n small in
    let back : number_of (byte_at 3 n) (byte_at 2 n) (byte_at 1 n) (byte_at 0 n) ≡ n = big_number-reads_back 4 n [] (omega (arith, small)) in
    record {
      first = byte_at 3 n;
      front = byte_at 3 n ∷ [];
      back = byte_at 2 n ∷ byte_at 1 n ∷ byte_at 0 n ∷ [];
      parts = h.1;
      spelled = (omega arith, omega (arith, o.top), refl);
      then_spelled = record {
        first = byte_at 2 n;
        front = byte_at 2 n ∷ [];
        back = byte_at 1 n ∷ byte_at 0 n ∷ [];
        parts = refl;
        spelled = (omega arith, o.second, refl);
        then_spelled = record {
          first = byte_at 1 n;
          front = byte_at 1 n ∷ [];
          back = byte_at 0 n ∷ [];
          parts = refl;
          spelled = (omega arith, o.third, refl);
          then_spelled = record { last = byte_at 0 n; small = o.last; whole = refl; is = ap shape_of back ∙ shape_again s h.0 };
        };
      };
    }

pub Reads-shape : Reads shape_at SpellsShape
unfolding shape_at
Reads-shape =
    Reads-told shape_at (Then (InRange 0 0) LengthFrom1) SpellsShape
    (Reads-then (one_byte_at 0 0) (InRange 0 0) (λ a bytes. one_byte_at 0 64 bytes >>= λ b. one_byte_at 0 (third_most b.0) b.1 >>= λ c. last_at a b.0 c.0 c.1) LengthFrom1 (Reads-byte 0 0 (omega arith)) (λ a t1 p.
    Reads-then (one_byte_at 0 64) (InRange 0 64) (λ b bytes. one_byte_at 0 (third_most b) bytes >>= λ c. last_at a b c.0 c.1) (LengthFrom2 a) (Reads-byte 0 64 (omega arith)) (λ b t2 q.
    Reads-then (one_byte_at 0 (third_most b)) (InRange 0 (third_most b)) (λ c. last_at a b c) (λ c. SpellsLast a b c) (Reads-byte 0 (third_most b) (omega arith)) (λ c t3 r.
    Reads-last a b c (subst (λ (x : ℕ). SomeLast x b c) (let z : 0 ≡ a = omega (arith, p.1) in z) (some_last b c q.1 r.1))))))
    shape_to shape_from
