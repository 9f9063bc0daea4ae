-- The readers of bytes and numbers.
use Rattle.std.proofs.Common.{◌≡◌, ℕ, zero, suc, ◌+◌, ◌-◌, ◌^◌, ◌<◌, ◌≤◌, true, false, cond, ◌&&◌, ltb, leb, List, [], ◌∷◌, ◌++◌, length, get_or, take, drop, replicate, Result, Ok, Err, refl, sym, ap, subst, ◌∙◌, arith, lit<, inl, inr}
use Rattle.std.proofs.lemmas.Bool.{lt-ltb, cases_eq, eq-eqb, cases_lt, le-ltb, le-leb, leb-true, ne_eqb, and_parts, and_from, cases_Bool, cond-true, cond-false}
use Rattle.std.proofs.lemmas.List.{take_all, take-take, take_at, drop_at, take-append-drop, length-append, length-take, length-replicate, get_or-take, get_or_past}
use Rattle.byteorder.specs.Endian.{big_bytes, big_number}
use Rattle.byteorder.specs.Numbers.{big_from-take, big_from-lt, big_number-reads_back, length-bytes_high_first}
use Rattle.mq_message.proofs.from_base.Numbers.{big_number_gives_back}
use Rattle.mq_frame.specs.declared.fault.Miss.{Miss}
use Rattle.mq_frame.specs.declared.fault.Miss.TheVariants.{Short, Wrong}
use Rattle.mq_frame.specs.Reading.{◌>>=◌, IsBytes, byte_at, fixed_at, number_at, positive, positive_at, piece_at}
use Rattle.mq_frame.proofs.Readers.{bind_ok, bind_err, first, second, one_ok, ok_err, short_wrong, one_wrong, Reads, Begins, Then, Reads-then, Reads-told, Reads-pure}

-- ---- one byte

abbrev pub InRange : ℕ → ℕ → ℕ → List ℕ → Type 0
InRange low high b text = (low ≤ b) × (b ≤ high) × (text ≡ b ∷ [])

data Byte (low high : ℕ) (bytes : List ℕ) (r : Result (ℕ × List ℕ) Miss) : Type 0 where
  none : bytes ≡ [] → r ≡ Err Short → Byte low high bytes r
  good : (b : ℕ) (rest : List ℕ) → bytes ≡ b ∷ rest → low ≤ b → b ≤ high → r ≡ Ok (b, rest) → Byte low high bytes r
  bad : (b : ℕ) (rest : List ℕ) → bytes ≡ b ∷ rest → ((low ≤ b) → (b ≤ high) → ⊥) → r ≡ Err (Wrong (length bytes)) → Byte low high bytes r

byte_cases : (low high : ℕ) (bytes : List ℕ) → Byte low high bytes (byte_at low high bytes)
byte_cases low high [] = none refl refl
byte_cases low high (b ∷ rest) =
    elim (cases_Bool (leb low b && leb b high)) [
      | inl e ↦ let h = and_parts _ _ e in good b rest refl (leb-true _ _ h.0) (leb-true _ _ h.1) (cond-true _ _ _ e)
      | inr e ↦ bad b rest refl (λ p q. absurd (let f : leb low b && leb b high ≡ true = and_from _ _ (le-leb _ _ p) (le-leb _ _ q) in let c : true ≡ false = sym f ∙ e in cc)) (cond-false _ _ _ e)
    ]

pub Reads-byte : (low high : ℕ) → low ≤ high → Reads (byte_at low high) (InRange low high)
Reads-byte low high order = record {
  some = record { value = low; text = low ∷ []; spelled = (omega arith, order, refl) };
  got = λ bytes b rest fits e. elim (byte_cases low high bytes) [
    | none p q ↦ absurd (ok_err _ _ _ e q)
    | good c after p q r s ↦
        let h = one_ok _ c b after rest s e in
        record { text = b ∷ []; parts = p ∙ ap (λ (x : ℕ). x ∷ after) h.0 ∙ ap (λ (x : List ℕ). b ∷ x) h.1; spelled = (subst (λ (x : ℕ). low ≤ x) h.0 q, subst (λ (x : ℕ). x ≤ high) h.0 r, refl) }
    | bad c after p q s ↦ absurd (ok_err _ _ _ e s)
  ];
  short = λ bytes fits e. elim (byte_cases low high bytes) [
    | none p q ↦ record { value = low; next = low; more = []; spelled = (omega arith, order, ap (λ (x : List ℕ). x ++ low ∷ []) p) }
    | good c after p q r s ↦ absurd (ok_err _ _ _ s e)
    | bad c after p q s ↦ absurd (short_wrong _ _ e s)
  ];
  wrong = λ bytes left fits e. elim (byte_cases low high bytes) [
    | none p q ↦ absurd (short_wrong _ _ q e)
    | good c after p q r s ↦ absurd (ok_err _ _ _ s e)
    | bad c after p q s ↦
        record {
          before = [];
          byte = c;
          behind = after;
          parts = p;
          counted = one_wrong _ _ _ e s ∙ ap length p;
          begins = record { value = low; next = low; more = []; spelled = (omega arith, order, refl) };
          never = λ a text rest more h g.
              let t : a ∷ rest ≡ c ∷ more = ap (λ (x : List ℕ). x ++ rest) (sym h.2) ∙ g in
              let same : a ≡ c = cc in
              q (subst (λ (x : ℕ). low ≤ x) same h.0) (subst (λ (x : ℕ). x ≤ high) same h.1);
        }
  ];
  again = λ a text rest h.
      let e : leb low a && leb a high ≡ true = and_from _ _ (le-leb _ _ h.0) (le-leb _ _ h.1) in
      ap (λ (x : List ℕ). byte_at low high (x ++ rest)) h.2 ∙ cond-true _ _ _ e;
}

-- ---- bytes that are fixed

pub Reads-fixed : (ws : List ℕ) → Reads (fixed_at ws) (λ u text. text ≡ ws)
Reads-fixed [] = Reads-told (λ bytes. Ok (tt, bytes)) (λ u text. (u ≡ tt) × (text ≡ [])) (λ u text. text ≡ []) (Reads-pure tt) (λ u text h. h.1) (λ u text h. (refl, h))
Reads-fixed (w ∷ ws) =
    let S : Unit {0} → List ℕ → Type 0 = λ u text. text ≡ ws in
    Reads-told (fixed_at (w ∷ ws)) (Then (InRange w w) (λ a. S)) (λ u text. text ≡ w ∷ ws)
    (Reads-then (byte_at w w) (InRange w w) (λ a. fixed_at ws) (λ a. S) (Reads-byte w w (omega arith)) (λ a t s. Reads-fixed ws))
    (λ u text h.
    let same : h.first ≡ w = omega (arith, h.spelled.0, h.spelled.1) in
    h.parts ∙ ap (λ (x : List ℕ). x ++ h.back) h.spelled.2 ∙ ap (λ (x : ℕ). x ∷ h.back) same ∙ ap (λ (x : List ℕ). w ∷ x) h.then_spelled)
    (λ u text h. record { first = w; front = w ∷ []; back = ws; parts = h; spelled = (omega arith, omega arith, refl); then_spelled = refl })

-- ---- so many bytes, and numbers

data Wide {A : Type 0} (width : ℕ) (v : List ℕ → A) (bytes : List ℕ) (r : Result (A × List ℕ) Miss) : Type 0 where
  brief : length bytes < width → r ≡ Err Short → Wide width v bytes r
  long : width ≤ length bytes → r ≡ Ok (v bytes, drop width bytes) → Wide width v bytes r

abbrev wide_at : {A : Type 0} → ℕ → (List ℕ → A) → List ℕ → Result (A × List ℕ) Miss
wide_at width v bytes = cond (ltb (length bytes) width) (Err Short) (Ok (v bytes, drop width bytes))

wide_cases : {A : Type 0} (width : ℕ) (v : List ℕ → A) (bytes : List ℕ) → Wide width v bytes (wide_at width v bytes)
wide_cases width v bytes =
    elim (cases_lt (length bytes) width) [
      | inl p ↦ brief p (cond-true _ _ _ (lt-ltb _ _ p))
      | inr p ↦ long p (cond-false _ _ _ (le-ltb _ _ p))
    ]

pub IsBytes-take : (n : ℕ) (bytes : List ℕ) → IsBytes bytes → IsBytes (take n bytes)
IsBytes-take n bytes h i =
    elim (cases_lt i n) [
      | inl lt ↦ rw (get_or-take n bytes i 0 lt) (h i)
      | inr le ↦ rw (get_or_past (take n bytes) i 0 (omega (arith, length-take n bytes))) (omega arith)
    ]

-- the bytes with zeros behind them
abbrev filled : ℕ → List ℕ → List ℕ
filled width bytes = bytes ++ replicate (width - length bytes) 0

length-filled : (width : ℕ) (bytes : List ℕ) → length bytes ≤ width → length (filled width bytes) ≡ width
length-filled width bytes le = omega (arith, length-append bytes (replicate (width - length bytes) 0), length-replicate {A = ℕ} (width - length bytes) 0)

IsBytes-zeros : (n i : ℕ) → get_or (replicate n 0) i 0 < 256
IsBytes-zeros zero i = omega arith
IsBytes-zeros (suc n) zero = omega arith
IsBytes-zeros (suc n) (suc i) = IsBytes-zeros n i

pub IsBytes-append : (xs ys : List ℕ) → IsBytes xs → IsBytes ys → IsBytes (xs ++ ys)
IsBytes-append [] ys p q i = q i
IsBytes-append (x ∷ xs) ys p q zero = p 0
IsBytes-append (x ∷ xs) ys p q (suc i) = IsBytes-append xs ys (λ j. p (suc j)) q i

-- a part of such a text, which zeros make whole
begun : (width : ℕ) (bytes : List ℕ) → length bytes < width → filled width bytes ≡ bytes ++ 0 ∷ replicate (width - length bytes - 1) 0
begun width bytes lt =
    let k : width - length bytes ≡ suc (width - length bytes - 1) = omega arith in
    ap (λ (n : ℕ). bytes ++ replicate n 0) k

-- what is read of so many bytes, whatever they are
pub record IsWide {A : Type 0} (width : ℕ) (v : List ℕ → A) (S : A → List ℕ → Type 0) : Type 0 where
  pub spelled : (bytes : List ℕ) → length bytes ≡ width → IsBytes bytes → S (v bytes) bytes
  pub front : (bytes : List ℕ) → v (take width bytes) ≡ v bytes
  pub width_is : (a : A) (text : List ℕ) → S a text → length text ≡ width
  pub back : (a : A) (text rest : List ℕ) → S a text → v (text ++ rest) ≡ a

pub Reads-wide : {A : Type 0} (width : ℕ) (v : List ℕ → A) (S : A → List ℕ → Type 0) → IsWide width v S → Reads (wide_at width v) S
Reads-wide width v S h = record {
  some = record { value = v (replicate width 0); text = replicate width 0; spelled = h.spelled (replicate width 0) (length-replicate {A = ℕ} width 0) (IsBytes-zeros width) };
  got = λ bytes b rest fits e. elim (wide_cases width v bytes) [
    | brief p q ↦ absurd (ok_err _ _ _ e q)
    | long p q ↦
        let same = one_ok _ (v bytes) b (drop width bytes) rest q e in
        record {
          text = take width bytes;
          parts = sym (take-append-drop width bytes) ∙ ap (λ (x : List ℕ). take width bytes ++ x) same.1;
          spelled = subst (λ (x : _). S x (take width bytes)) (h.front bytes ∙ same.0) (h.spelled (take width bytes) (omega (arith, length-take width bytes)) (IsBytes-take width bytes fits));
        }
  ];
  short = λ bytes fits e. elim (wide_cases width v bytes) [
    | brief p q ↦ record {
      value = v (filled width bytes);
      next = 0;
      more = replicate (width - length bytes - 1) 0;
      spelled = subst (S (v (filled width bytes))) (begun width bytes p) (h.spelled (filled width bytes) (length-filled width bytes (omega arith)) (IsBytes-append bytes (replicate (width - length bytes) 0) fits (IsBytes-zeros (width - length bytes))));
    }
    | long p q ↦ absurd (ok_err _ _ _ q e)
  ];
  wrong = λ bytes left fits e. elim (wide_cases width v bytes) [
    | brief p q ↦ absurd (short_wrong _ _ q e)
    | long p q ↦ absurd (ok_err _ _ _ q e)
  ];
  again = λ a text rest s.
      let n = h.width_is a text s in
      cond-false (ltb (length (text ++ rest)) width) (Err Short) (Ok (v (text ++ rest), drop width (text ++ rest))) (le-ltb _ _ (omega (arith, length-append text rest))) ∙ rw (h.back a text rest s, drop_at text rest width n) refl;
}

abbrev pub IsPiece : ℕ → List ℕ → List ℕ → Type 0
IsPiece width piece text = (length piece ≡ width) × IsBytes piece × (text ≡ piece)

pub Reads-piece : (width : ℕ) → Reads (piece_at width) (IsPiece width)
Reads-piece width = Reads-wide width (take width) (IsPiece width) (record {
  spelled = λ bytes n fits. let e : take width bytes ≡ bytes = take_all width bytes (omega (arith, n)) in subst (λ (x : List ℕ). IsPiece width x bytes) (sym e) (n, fits, refl);
  front = λ bytes. take-take width width bytes (omega arith);
  width_is = λ a text s. ap length s.2 ∙ s.0;
  back = λ a text rest s. take_at text rest width (ap length s.2 ∙ s.0) ∙ s.2;
})

-- the same, whatever stands in it
abbrev pub IsLong : ℕ → List ℕ → List ℕ → Type 0
IsLong width piece text = (length piece ≡ width) × (text ≡ piece)

pub Reads-body : (width : ℕ) → Reads (piece_at width) (IsLong width)
Reads-body width = Reads-wide width (take width) (IsLong width) (record {
  spelled = λ bytes n fits. let e : take width bytes ≡ bytes = take_all width bytes (omega (arith, n)) in subst (λ (x : List ℕ). IsLong width x bytes) (sym e) (n, refl);
  front = λ bytes. take-take width width bytes (omega arith);
  width_is = λ a text s. ap length s.1 ∙ s.0;
  back = λ a text rest s. take_at text rest width (ap length s.1 ∙ s.0) ∙ s.1;
})

abbrev pub SpellsNumber : ℕ → ℕ → List ℕ → Type 0
SpellsNumber width n text = (n < 256 ^ width) × (text ≡ big_bytes width n)

pub Reads-number : (width : ℕ) → Reads (number_at width) (SpellsNumber width)
Reads-number width = Reads-wide width (big_number width) (SpellsNumber width) (record {
  spelled = λ bytes n fits. (big_from-lt 0 width bytes fits, sym (big_number_gives_back width bytes n fits));
  front = λ bytes. big_from-take 0 width width bytes (omega arith);
  width_is = λ a text s. ap length s.1 ∙ length-bytes_high_first width a;
  back = λ a text rest s. ap (λ (x : List ℕ). big_number width (x ++ rest)) s.1 ∙ big_number-reads_back width a rest s.0;
})

-- ---- a number above 0

abbrev pub SpellsPositive : ℕ → List ℕ → Type 0
SpellsPositive n text = (0 < n) × (n < 256 ^ 4) × (text ≡ big_bytes 4 n)

data Positive (n : ℕ) (rest : List ℕ) (r : Result (ℕ × List ℕ) Miss) : Type 0 where
  nothing : n ≡ 0 → r ≡ Err (Wrong (length rest + 1)) → Positive n rest r
  above : 0 < n → r ≡ Ok (n, rest) → Positive n rest r

positive_cases : (n : ℕ) (rest : List ℕ) → Positive n rest (positive n rest)
positive_cases n rest =
    elim (cases_eq n 0) [
      | inl e ↦ nothing e (cond-true _ _ _ (eq-eqb _ _ e))
      | inr ne ↦ above (omega (arith, ne)) (cond-false _ _ _ (ne_eqb _ _ ne))
    ]

pub four : (a b c d : ℕ) → a < 256 → b < 256 → c < 256 → d < 256 → IsBytes (a ∷ b ∷ c ∷ d ∷ [])
four a b c d p q r s zero = p
four a b c d p q r s (suc zero) = q
four a b c d p q r s (suc (suc zero)) = r
four a b c d p q r s (suc (suc (suc zero))) = s
four a b c d p q r s (suc (suc (suc (suc i)))) = omega arith

-- four bytes whose last is 1 are a number above 0
ends_in_1 : (a b c : ℕ) → IsBytes (a ∷ b ∷ c ∷ 1 ∷ []) → SpellsPositive (big_number 4 (a ∷ b ∷ c ∷ 1 ∷ [])) (a ∷ b ∷ c ∷ 1 ∷ [])
ends_in_1 a b c fits = (omega arith, big_from-lt 0 4 (a ∷ b ∷ c ∷ 1 ∷ []) fits, sym (big_number_gives_back 4 (a ∷ b ∷ c ∷ 1 ∷ []) refl fits))

positive_begins : (bytes : List ℕ) → IsBytes bytes → length bytes < 4 → Begins SpellsPositive bytes
positive_begins [] fits lt = record { value = big_number 4 (0 ∷ 0 ∷ 0 ∷ 1 ∷ []); next = 0; more = 0 ∷ 0 ∷ 1 ∷ []; spelled = ends_in_1 0 0 0 (four 0 0 0 1 (lit< tt) (lit< tt) (lit< tt) (lit< tt)) }
positive_begins (a ∷ []) fits lt = record { value = big_number 4 (a ∷ 0 ∷ 0 ∷ 1 ∷ []); next = 0; more = 0 ∷ 1 ∷ []; spelled = ends_in_1 a 0 0 (four a 0 0 1 (fits 0) (lit< tt) (lit< tt) (lit< tt)) }
positive_begins (a ∷ b ∷ []) fits lt = record { value = big_number 4 (a ∷ b ∷ 0 ∷ 1 ∷ []); next = 0; more = 1 ∷ []; spelled = ends_in_1 a b 0 (four a b 0 1 (fits 0) (fits 1) (lit< tt) (lit< tt)) }
positive_begins (a ∷ b ∷ c ∷ []) fits lt = record { value = big_number 4 (a ∷ b ∷ c ∷ 1 ∷ []); next = 1; more = []; spelled = ends_in_1 a b c (four a b c 1 (fits 0) (fits 1) (fits 2) (lit< tt)) }
positive_begins (a ∷ b ∷ c ∷ d ∷ bytes) fits lt = absurd (omega arith)

-- four bytes of 0 are not the bytes of a number above 0
not_zeros : (n : ℕ) (rest more : List ℕ) → SpellsPositive n (big_bytes 4 n) → big_bytes 4 n ++ rest ≡ 0 ∷ 0 ∷ 0 ∷ 0 ∷ more → ⊥
not_zeros n rest more h e =
    let back : big_number 4 (big_bytes 4 n ++ rest) ≡ n = big_number-reads_back 4 n rest h.1 in
    let none : big_number 4 (big_bytes 4 n ++ rest) ≡ 0 = ap (big_number 4) e in
    omega (arith, back, none, h.0)

pub Reads-positive : Reads positive_at SpellsPositive
unfolding positive_at
Reads-positive =
    let N = Reads-number 4 in
    record {
      some = record { value = 1; text = big_bytes 4 1; spelled = (lit< tt, lit< tt, refl) };
      got = λ bytes n rest fits e.
          let p = bind_ok (number_at 4 bytes) (λ x. positive x.0 x.1) (n, rest) e in
          let t = N.got bytes p.0.0 p.0.1 fits p.1 in
          elim (positive_cases p.0.0 p.0.1) [
            | nothing q r ↦ absurd (ok_err _ _ _ p.2 r)
            | above q r ↦
                let same = one_ok _ p.0.0 n p.0.1 rest r p.2 in
                record { text = t.text; parts = t.parts ∙ ap (λ (x : List ℕ). t.text ++ x) same.1; spelled = subst (λ (x : ℕ). SpellsPositive x t.text) same.0 (q, t.spelled.0, t.spelled.1) }
          ];
      short = λ bytes fits e. elim (bind_err (number_at 4 bytes) (λ x. positive x.0 x.1) Short e) [
        | first p ↦ elim (wide_cases 4 (big_number 4) bytes) [
          | brief q r ↦ positive_begins bytes fits q
          | long q r ↦ absurd (ok_err _ _ _ r p)
        ]
        | second x p q ↦ elim (positive_cases x.0 x.1) [
          | nothing r s ↦ absurd (short_wrong _ _ q s)
          | above r s ↦ absurd (ok_err _ _ _ s q)
        ]
      ];
      wrong = λ bytes left fits e. elim (bind_err (number_at 4 bytes) (λ x. positive x.0 x.1) (Wrong left) e) [
        | first p ↦ elim (wide_cases 4 (big_number 4) bytes) [
          | brief q r ↦ absurd (short_wrong _ _ r p)
          | long q r ↦ absurd (ok_err _ _ _ r p)
        ]
        | second x p q ↦ elim (positive_cases x.0 x.1) [
          | nothing r s ↦
              let t = N.got bytes x.0 x.1 fits p in
              record {
                before = 0 ∷ 0 ∷ 0 ∷ [];
                byte = 0;
                behind = x.1;
                parts = t.parts ∙ ap (λ (y : List ℕ). y ++ x.1) t.spelled.1 ∙ ap (λ (y : ℕ). big_bytes 4 y ++ x.1) r;
                counted = omega (arith, one_wrong _ _ _ q s);
                begins = record { value = 1; next = 1; more = []; spelled = (lit< tt, lit< tt, refl) };
                never = λ a text rest more h g. not_zeros a rest more (h.0, h.1, refl) (ap (λ (y : List ℕ). y ++ rest) (sym h.2) ∙ g);
              }
          | above r s ↦ absurd (ok_err _ _ _ s q)
        ]
      ];
      again = λ n text rest h.
          let e = N.again n text rest (h.1, h.2) in
          ap (λ (r : Result (ℕ × List ℕ) Miss). r >>= λ x. positive x.0 x.1) e ∙ elim (positive_cases n rest) [
            | nothing q r ↦ absurd (omega (arith, h.0))
            | above q r ↦ r
          ];
    }
