-- Lists with one value more, or another at a place.
use Rattle.std.proofs.Common.{◌≡◌, ℕ, zero, suc, ◌+◌, ◌<◌, Bool, true, false, List, [], ◌∷◌, ◌++◌, length, refl, sym, ap, arith, inl, inr}
use Rattle.std.specs.Prelude.{◌⊎◌, ◌==◌, Some, slice_get, slice_set}
use Rattle.std.proofs.lemmas.Bool.Decides.{nat_tests}

pub some_is : {A : Type 0} (a b : A) → Some a ≡ Some b → a ≡ b
some_is a b e = cc

pub same_or_not : (n m : ℕ) → (n ≡ m) ⊎ ((n == m) ≡ false)
same_or_not n m = at_it (n == m) refl
  where
    are_same : (a b : ℕ) → (a == b) ≡ true → a ≡ b
    are_same a b e = grind (arith, nat_tests)

    at_it : (b : Bool) → (n == m) ≡ b → (n ≡ m) ⊎ ((n == m) ≡ false)
    at_it true e = inl (are_same n m e)
    at_it false e = inr e

less : (n m : ℕ) → (suc n == suc m) ≡ false → (n == m) ≡ false
less n m e = grind (arith, nat_tests)

not_same : (n : ℕ) → (n == n) ≡ false → ⊥
not_same n e = grind (arith, nat_tests)

-- what stands in a list with one value more
pub long_more : {A : Type 0} (xs : List A) (x : A) → length (xs ++ x ∷ []) ≡ length xs + 1
long_more [] x = refl
long_more (y ∷ xs) x = let h = long_more xs x in omega (arith, h)

pub get_end : {A : Type 0} (xs : List A) (x : A) → slice_get (xs ++ x ∷ []) (length xs) ≡ Some x
get_end [] x = refl
get_end (y ∷ xs) x = get_end xs x

pub get_more : {A : Type 0} (xs : List A) (x y : A) (n : ℕ) → slice_get xs n ≡ Some y → slice_get (xs ++ x ∷ []) n ≡ Some y
get_more [] x y zero e = absurd cc
get_more [] x y (suc n) e = absurd cc
get_more (z ∷ xs) x y zero e = e
get_more (z ∷ xs) x y (suc n) e = get_more xs x y n e

-- it stood there before, or it is the new one
pub got_more : {A : Type 0} (xs : List A) (x y : A) (n : ℕ) → slice_get (xs ++ x ∷ []) n ≡ Some y → (slice_get xs n ≡ Some y) ⊎ ((n ≡ length xs) × (y ≡ x))
got_more [] x y zero e = inr (refl, sym (some_is x y e))
got_more [] x y (suc n) e = absurd cc
got_more (z ∷ xs) x y zero e = inl e
got_more (z ∷ xs) x y (suc n) e = by (got_more xs x y n e)
  where
    by : (slice_get xs n ≡ Some y) ⊎ ((n ≡ length xs) × (y ≡ x)) → (slice_get (z ∷ xs) (suc n) ≡ Some y) ⊎ ((suc n ≡ length (z ∷ xs)) × (y ≡ x))
    by (inl h) = inl h
    by (inr h) = inr (ap suc h.0, h.1)

-- a place that is there
pub within : {A : Type 0} (xs : List A) (x : A) (n : ℕ) → slice_get xs n ≡ Some x → n < length xs
within [] x zero e = absurd cc
within [] x (suc n) e = absurd cc
within (y ∷ xs) x zero e = omega arith
within (y ∷ xs) x (suc n) e = let h = within xs x n e in omega (arith, h)

-- another value at a place
pub set_long : {A : Type 0} (xs : List A) (n : ℕ) (x : A) → length (slice_set xs n x) ≡ length xs
set_long [] zero y = refl
set_long [] (suc n) y = refl
set_long (x ∷ xs) zero y = refl
set_long (x ∷ xs) (suc n) y = let h = set_long xs n y in omega (arith, h)

pub set_here : {A : Type 0} (xs : List A) (m : ℕ) (y z : A) → slice_get (slice_set xs m y) m ≡ Some z → z ≡ y
set_here [] zero y z e = absurd cc
set_here [] (suc m) y z e = absurd cc
set_here (x ∷ xs) zero y z e = sym (some_is y z e)
set_here (x ∷ xs) (suc m) y z e = set_here xs m y z e

pub set_other : {A : Type 0} (xs : List A) (m n : ℕ) (y : A) → (n == m) ≡ false → slice_get (slice_set xs m y) n ≡ slice_get xs n
set_other [] zero n y e = refl
set_other [] (suc m) n y e = refl
set_other (x ∷ xs) zero zero y e = absurd (not_same 0 e)
set_other (x ∷ xs) zero (suc n) y e = refl
set_other (x ∷ xs) (suc m) zero y e = refl
set_other (x ∷ xs) (suc m) (suc n) y e = set_other xs m n y (less n m e)
