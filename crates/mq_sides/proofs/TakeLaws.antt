-- What is taken out by name: the first value at which a test passes, and then all others at which it does.
use Rattle.std.proofs.Common.{◌≡◌, ℕ, suc, ◌+◌, Bool, true, false, cond, List, [], ◌∷◌, length, refl, ap, arith, sym, ◌∙◌}
use Rattle.std.specs.Prelude.{Some, None, find, filter, not, nat_lt, slice_get}
use Rattle.std.specs.List.{remove, position, position_or_len}
use Rattle.std.proofs.lemmas.Bool.Decides.{nat_tests}

some_same : {X : Type 0} (a b : X) → Some a ≡ Some b → a ≡ b
some_same a b e = grind (arith, e)

one : (n : ℕ) → 1 + n ≡ suc n
one n = omega arith

above : (n : ℕ) → nat_lt 0 (suc n) ≡ true
above n = grind (arith, nat_tests)

module _ {A : Type 0} (t : A → Bool) where
  at_first : (xs : List A) → slice_get xs (position_or_len t xs) ≡ find t xs
  at_first [] = refl
  at_first (x ∷ xs) = by (t x) (at_first xs)
    where
      by : (b : Bool) → slice_get xs (position_or_len t xs) ≡ find t xs → slice_get (x ∷ xs) (cond (not b) (1 + position_or_len t xs) 0) ≡ cond b (Some x) (find t xs)
      by true rest = refl
      by false rest = ap (slice_get (x ∷ xs)) (one (position_or_len t xs)) ∙ rest

  left_first : (xs : List A) → filter (λ (x : A). not (t x)) (remove xs (position_or_len t xs)) ≡ filter (λ (x : A). not (t x)) xs
  left_first [] = refl
  left_first (x ∷ xs) = by (t x) refl (left_first xs)
    where
      by : (b : Bool) → t x ≡ b → filter (λ (x : A). not (t x)) (remove xs (position_or_len t xs)) ≡ filter (λ (x : A). not (t x)) xs
          → filter (λ (x : A). not (t x)) (remove (x ∷ xs) (cond (not b) (1 + position_or_len t xs) 0)) ≡ cond (not b) (x ∷ filter (λ (x : A). not (t x)) xs) (filter (λ (x : A). not (t x)) xs)
      by true e rest = refl
      by false e rest = ap (λ (k : ℕ). filter (λ (y : A). not (t y)) (remove (x ∷ xs) k)) (one (position_or_len t xs)) ∙ ap (λ (b : Bool). cond (not b) (x ∷ filter (λ (y : A). not (t y)) (remove xs (position_or_len t xs))) (filter (λ (y : A). not (t y)) (remove xs (position_or_len t xs)))) e ∙ ap (λ (ys : List A). x ∷ ys) rest

  is_first : (b : Bool) (n place : ℕ) → cond b (Some n) None ≡ Some place → n ≡ place
  is_first true n place e = some_same n place e
  is_first false n place e = absurd cc

  pub found_some : (xs : List A) (place : ℕ) → position t xs ≡ Some place → slice_get xs place ≡ find t xs
  found_some xs place e = ap (slice_get xs) (sym (is_first (nat_lt (position_or_len t xs) (length xs)) (position_or_len t xs) place e)) ∙ at_first xs

  pub left_some : (xs : List A) (place : ℕ) → position t xs ≡ Some place → filter (λ (x : A). not (t x)) (remove xs place) ≡ filter (λ (x : A). not (t x)) xs
  left_some xs place e = ap (λ (n : ℕ). filter (λ (x : A). not (t x)) (remove xs n)) (sym (is_first (nat_lt (position_or_len t xs) (length xs)) (position_or_len t xs) place e)) ∙ left_first xs

  none_none : (b : Bool) (n : ℕ) → cond b (Some n) None ≡ None → b ≡ false
  none_none true n e = absurd cc
  none_none false n e = refl

  less : (n m : ℕ) → nat_lt (1 + n) (suc m) ≡ false → nat_lt n m ≡ false
  less n m e = grind (arith, nat_tests)

  nowhere : (xs : List A) → nat_lt (position_or_len t xs) (length xs) ≡ false → (find t xs ≡ None) × (filter (λ (x : A). not (t x)) xs ≡ xs)
  nowhere [] e = (refl, refl)
  nowhere (x ∷ xs) e = by (t x) refl e (nowhere xs)
    where
      by : (b : Bool) → t x ≡ b → nat_lt (cond (not b) (1 + position_or_len t xs) 0) (suc (length xs)) ≡ false
          → (nat_lt (position_or_len t xs) (length xs) ≡ false → (find t xs ≡ None) × (filter (λ (y : A). not (t y)) xs ≡ xs))
          → (cond b (Some x) (find t xs) ≡ None) × (cond (not b) (x ∷ filter (λ (y : A). not (t y)) xs) (filter (λ (y : A). not (t y)) xs) ≡ x ∷ xs)
      by true is e rest = absurd (let b : true ≡ false = sym (above (length xs)) ∙ e in cc)
      by false is e rest = let r = rest (less (position_or_len t xs) (length xs) e) in (r.0, ap (λ (ys : List A). x ∷ ys) r.1)

  pub found_none : (xs : List A) → position t xs ≡ None → find t xs ≡ None
  found_none xs e = (nowhere xs (none_none (nat_lt (position_or_len t xs) (length xs)) (position_or_len t xs) e)).0

  pub left_none : (xs : List A) → position t xs ≡ None → filter (λ (x : A). not (t x)) xs ≡ xs
  left_none xs e = (nowhere xs (none_none (nat_lt (position_or_len t xs) (length xs)) (position_or_len t xs) e)).1
