-- Numbers in words, both ways.
use Rattle.std.proofs.Common.{◌≡◌, ◌⊎◌, ℕ, suc, ◌≤◌, ◌<◌, Bool, true, false, cond, eqb, List, [], ◌∷◌, refl, sym, ap, subst, ◌∙◌, arith, inl, inr}
use Rattle.std.specs.Prelude.{ℤ, pos, Ok, Err, nat_le, nat_lt, ◌^◌, ◌&&◌}
use Rattle.std.proofs.lemmas.Bool.{and_parts, and_from}
use Rattle.std.proofs.lemmas.Bool.Decides.{eqb_tells, leb_tells}
use Rattle.mq_text.specs.declared.numbers.NumberFault.TheVariants.{NoNumber, OutOfRange}
use Rattle.mq_text.specs.Numbers.{is_number, is_negative, value_of, after_sign, negated, number_in, signed_of}
use Rattle.mq_scn_lines.specs.declared.fault.LineFault.{LineFault}
use Rattle.mq_scn_lines.specs.declared.fault.LineFault.TheVariants as faults
use Rattle.mq_scn_lines.specs.Faults.{rank}
use Rattle.mq_scn_lines.specs.Numbers.{told, ranged, signed_number}
use Rattle.mq_scn_grammar.specs.Faults.{IsTold}
use Rattle.mq_scn_grammar.specs.Operands.{IsNumeral, IsNumber, IsSigned, HasNumberFault}
use Rattle.mq_scn_grammar.proofs.Told.{Reports, is_plain}

neither : (text : List ℕ) → is_number text ≡ false → is_negative text ≡ false → IsNumeral text → ⊥
neither text p q (inl e) = absurd (let f : false ≡ true = sym p ∙ e in cc)
neither text p q (inr e) = absurd (let f : false ≡ true = sym q ∙ e in cc)

minus_no_digit : (b : ℕ) (bs : List ℕ) (t : Bool) → eqb b 45 ≡ t → cond t (is_number bs) false ≡ true → is_number (b ∷ bs) ≡ false
minus_no_digit b bs false e f = absurd cc
minus_no_digit b bs true e f = elim (eqb_tells b 45) [
  | inl p ↦ ap (λ (c : ℕ). is_number (c ∷ bs)) p.1
  | inr p ↦ absurd (let f : true ≡ false = sym e ∙ p.0 in cc)
]

-- what has a minus is no row of digits
pub negative_unsigned : (text : List ℕ) → is_negative text ≡ true → is_number text ≡ false
negative_unsigned [] e = absurd cc
negative_unsigned (b ∷ bs) e = minus_no_digit b bs (eqb b 45) refl e

pub both_signs : (text : List ℕ) → is_number text ≡ true → is_negative text ≡ true → ⊥
both_signs text e f = absurd (let g : true ≡ false = sym e ∙ negative_unsigned text f in cc)

-- one fault
only_fault : {A : Type 0} (Is : A → Type 0) (beyond : LineFault) (text : List ℕ) → is_plain beyond ≡ true → IsNumeral text → ((x : A) → Is x → ⊥) → Reports Is (HasNumberFault beyond Is text) (Err beyond)
only_fault Is beyond text plain is none = ((λ x h. none x h), inr (is, (refl, λ x h. none x h)), plain, λ g h. by g h)
  where
    by : (g : LineFault) → HasNumberFault beyond Is text g → (g ≡ beyond) ⊎ (rank beyond < rank g)
    by g (inl h) = absurd (h.1 is)
    by g (inr h) = inl h.1.0

no_form : {A : Type 0} (Is : A → Type 0) (beyond : LineFault) (text : List ℕ) → (IsNumeral text → ⊥) → ((x : A) → Is x → IsNumeral text) → Reports Is (HasNumberFault beyond Is text) (Err faults.Form)
no_form Is beyond text none needs = ((λ x h. none (needs x h)), inl (refl, none), refl, λ g h. by g h)
  where
    by : (g : LineFault) → HasNumberFault beyond Is text g → (g ≡ faults.Form) ⊎ (rank faults.Form < rank g)
    by g (inl h) = inl h.0
    by g (inr h) = absurd (none h.0)

one_value : {A : Type 0} (Is : A → Type 0) (beyond : LineFault) (text : List ℕ) (x : A) → Is x → IsNumeral text → ((y : A) → Is y → y ≡ x) → Reports Is (HasNumberFault beyond Is text) (Ok x)
one_value Is beyond text x is numeral same = (is, (λ y h. same y h), λ f h. by f h)
  where
    by : (f : LineFault) → HasNumberFault beyond Is text f → ⊥
    by f (inl h) = h.1 numeral
    by f (inr h) = h.1.1 x is

pub le_of : (a b : ℕ) → nat_le a b ≡ true → a ≤ b
le_of a b e = elim (leb_tells a b) [
  | inl t ↦ t.1
  | inr t ↦ absurd (let f : true ≡ false = sym e ∙ t.0 in cc)
]

pub of_le : (a b : ℕ) → a ≤ b → nat_le a b ≡ true
of_le a b le = elim (leb_tells a b) [
  | inl t ↦ t.0
  | inr t ↦ absurd (let lt = t.1 in omega (arith, lt, le))
]

-- ---- numbers in a range

abbrev pub NumbersOf : ℕ → ℕ → List ℕ → ℕ → Type 0
NumbersOf low high text n = IsNumber low high n text

module _ (beyond : LineFault) (plain : is_plain beyond ≡ true) (low high : ℕ) (text : List ℕ) where
  out_of_range : (nat_le low (value_of text) && nat_le (value_of text) high) ≡ false → (n : ℕ) → IsNumber low high n text → ⊥
  out_of_range e n (is, same, above, below) =
      let a : low ≤ value_of text = subst (λ (k : ℕ). low ≤ k) same above in
      let b : value_of text ≤ high = subst (λ (k : ℕ). k ≤ high) same below in
      absurd (let f : true ≡ false = sym (and_from (nat_le low (value_of text)) (nat_le (value_of text) high) (of_le low (value_of text) a) (of_le (value_of text) high b)) ∙ e in cc)

  by_number : (s m t : Bool) → is_number text ≡ s → is_negative text ≡ m → (nat_le low (value_of text) && nat_le (value_of text) high) ≡ t
      → Reports (NumbersOf low high text) (HasNumberFault beyond (NumbersOf low high text) text) (told beyond (cond s (cond t (Ok (value_of text)) (Err OutOfRange)) (cond m (Err OutOfRange) (Err NoNumber))))
  by_number true m true e f g =
      let p = and_parts (nat_le low (value_of text)) (nat_le (value_of text) high) g in
      one_value (NumbersOf low high text) beyond text (value_of text) (e, refl, le_of low (value_of text) p.0, le_of (value_of text) high p.1) (inl e) (λ y h. h.1)
  by_number true m false e f g = only_fault (NumbersOf low high text) beyond text plain (inl e) (λ n h. out_of_range g n h)
  by_number false true t e f g = only_fault (NumbersOf low high text) beyond text plain (inr f) (λ n h. absurd (let k : false ≡ true = sym e ∙ h.0 in cc))
  by_number false false t e f g = no_form (NumbersOf low high text) beyond text (neither text e f) (λ n h. inl h.0)

  pub ranged_tells : Reports (NumbersOf low high text) (HasNumberFault beyond (NumbersOf low high text) text) (ranged beyond low high text)
  unfolding number_in
  ranged_tells = by_number (is_number text) (is_negative text) (nat_le low (value_of text) && nat_le (value_of text) high) refl refl refl

-- ---- numbers with a sign

abbrev pub SignedOf : List ℕ → ℤ → Type 0
SignedOf text n = IsSigned n text

module _ (text : List ℕ) where
  abbrev Fault : LineFault → Type 0
  Fault = HasNumberFault faults.Number (SignedOf text) text

  one_positive : is_number text ≡ true → (y : ℤ) → IsSigned y text → y ≡ pos (value_of text)
  one_positive e y (inl h) = h.2
  one_positive e y (inr h) = absurd (both_signs text e h.0)

  one_negative : is_negative text ≡ true → (y : ℤ) → IsSigned y text → y ≡ negated (value_of (after_sign text))
  one_negative e y (inl h) = absurd (both_signs text h.0 e)
  one_negative e y (inr h) = h.2

  large : is_number text ≡ true → nat_lt (value_of text) (2 ^ 31) ≡ false → (y : ℤ) → IsSigned y text → ⊥
  large e f y (inl h) = absurd (let g : true ≡ false = sym (of_le (suc (value_of text)) (2 ^ 31) h.1) ∙ f in cc)
  large e f y (inr h) = both_signs text e h.0

  low_one : is_negative text ≡ true → nat_le (value_of (after_sign text)) (2 ^ 31) ≡ false → (y : ℤ) → IsSigned y text → ⊥
  low_one e f y (inl h) = both_signs text h.0 e
  low_one e f y (inr h) = absurd (let g : true ≡ false = sym (of_le (value_of (after_sign text)) (2 ^ 31) h.1) ∙ f in cc)

  needs : (y : ℤ) → IsSigned y text → IsNumeral text
  needs y (inl h) = inl h.0
  needs y (inr h) = inr h.0

  by_signs : (s m t u : Bool) → is_number text ≡ s → is_negative text ≡ m → nat_lt (value_of text) (2 ^ 31) ≡ t → nat_le (value_of (after_sign text)) (2 ^ 31) ≡ u
      → Reports (SignedOf text) Fault (told faults.Number (cond s (cond t (Ok (pos (value_of text))) (Err OutOfRange)) (cond m (cond u (Ok (negated (value_of (after_sign text)))) (Err OutOfRange)) (Err NoNumber))))
  by_signs true m true u e f g h = one_value (SignedOf text) faults.Number text (pos (value_of text)) (inl (e, le_of (suc (value_of text)) (2 ^ 31) g, refl)) (inl e) (λ y k. one_positive e y k)
  by_signs true m false u e f g h = only_fault (SignedOf text) faults.Number text refl (inl e) (λ y k. large e g y k)
  by_signs false true t true e f g h = one_value (SignedOf text) faults.Number text (negated (value_of (after_sign text))) (inr (f, le_of (value_of (after_sign text)) (2 ^ 31) h, refl)) (inr f) (λ y k. one_negative f y k)
  by_signs false true t false e f g h = only_fault (SignedOf text) faults.Number text refl (inr f) (λ y k. low_one f h y k)
  by_signs false false t u e f g h = no_form (SignedOf text) faults.Number text (neither text e f) (λ y k. needs y k)

  pub signed_tells : Reports (SignedOf text) (HasNumberFault faults.Number (SignedOf text) text) (signed_number text)
  unfolding signed_of
  signed_tells = by_signs (is_number text) (is_negative text) (nat_lt (value_of text) (2 ^ 31)) (nat_le (value_of (after_sign text)) (2 ^ 31)) refl refl refl refl

-- ---- one fault of a number

one_number_fault : {A : Type 0} (Is : A → Type 0) (beyond : LineFault) (text : List ℕ) (f g : LineFault) → HasNumberFault beyond Is text f → HasNumberFault beyond Is text g → rank f ≤ rank g
one_number_fault Is beyond text f g (inl h) (inl k) = let r : rank f ≡ rank g = ap rank (h.0 ∙ sym k.0) in omega (arith, r)
one_number_fault Is beyond text f g (inl h) (inr k) = absurd (h.1 k.0)
one_number_fault Is beyond text f g (inr h) (inl k) = absurd (k.1 h.0)
one_number_fault Is beyond text f g (inr h) (inr k) = let r : rank f ≡ rank g = ap rank (h.1.0 ∙ sym k.1.0) in omega (arith, r)

pub number_told : {A : Type 0} (Is : A → Type 0) (beyond : LineFault) (text : List ℕ) (f : LineFault) → HasNumberFault beyond Is text f → IsTold (HasNumberFault beyond Is text) f
number_told Is beyond text f h = (h, λ g k. one_number_fault Is beyond text f g h k)
