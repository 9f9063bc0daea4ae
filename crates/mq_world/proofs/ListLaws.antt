-- Lists of which one value is another now.
use Rattle.std.proofs.Common.{◌≡◌, ℕ, zero, suc, ◌<◌, true, false, List, [], ◌∷◌, length, refl, ap, arith}
use Rattle.std.specs.Prelude.{◌==◌, map, Some, option_map, slice_get, slice_set}
use Rattle.std.proofs.lemmas.Bool.Decides.{nat_tests}
pub use Rattle.mq_course.proofs.CourseLaws.{same_or_not}

pub itself : (n : ℕ) → (n == n) ≡ true
itself n = grind (arith, nat_tests)

nothing : (n : ℕ) → n < 0 → ⊥
nothing n h = omega arith

pub get_map : {A B : Type 0} (f : A → B) (xs : List A) (n : ℕ) → slice_get (map f xs) n ≡ option_map f (slice_get xs n)
get_map f [] zero = refl
get_map f [] (suc n) = refl
get_map f (x ∷ xs) zero = refl
get_map f (x ∷ xs) (suc n) = get_map f xs n

pub set_map : {A B : Type 0} (f : A → B) (xs : List A) (n : ℕ) (x : A) → map f (slice_set xs n x) ≡ slice_set (map f xs) n (f x)
set_map f [] zero y = refl
set_map f [] (suc n) y = refl
set_map f (x ∷ xs) zero y = refl
set_map f (x ∷ xs) (suc n) y = ap (λ (l : List _). f x ∷ l) (set_map f xs n y)

pub long_map : {A B : Type 0} (f : A → B) (xs : List A) → length (map f xs) ≡ length xs
long_map f [] = refl
long_map f (x ∷ xs) = let h = long_map f xs in omega (arith, h)

pub set_long : {A : Type 0} (xs : List A) (n : ℕ) (x : A) → length (slice_set xs n x) ≡ length xs
set_long [] zero y = refl
set_long [] (suc n) y = refl
set_long (x ∷ xs) zero y = refl
set_long (x ∷ xs) (suc n) y = let h = set_long xs n y in omega (arith, h)

-- what is set at a place, and the others
pub set_here : {A : Type 0} (xs : List A) (m : ℕ) (x y : A) → slice_get xs m ≡ Some x → slice_get (slice_set xs m y) m ≡ Some y
set_here [] zero x y e = absurd cc
set_here [] (suc m) x y e = absurd cc
set_here (z ∷ zs) zero x y e = refl
set_here (z ∷ zs) (suc m) x y e = set_here zs m x y e

less : (n m : ℕ) → (suc n == suc m) ≡ false → (n == m) ≡ false
less n m e = grind (arith, nat_tests)

not_same : (n : ℕ) → (n == n) ≡ false → ⊥
not_same n e = grind (arith, nat_tests)

pub set_other : {A : Type 0} (xs : List A) (m n : ℕ) (y : A) → (n == m) ≡ false → slice_get (slice_set xs m y) n ≡ slice_get xs n
set_other [] zero n y e = refl
set_other [] (suc m) n y e = refl
set_other (x ∷ xs) zero zero y e = absurd (not_same 0 e)
set_other (x ∷ xs) zero (suc n) y e = refl
set_other (x ∷ xs) (suc m) zero y e = refl
set_other (x ∷ xs) (suc m) (suc n) y e = set_other xs m n y (less n m e)

-- the same value set again
pub set_again : {A : Type 0} (xs : List A) (m : ℕ) (x : A) → slice_get xs m ≡ Some x → slice_set xs m x ≡ xs
set_again [] zero x e = refl
set_again [] (suc m) x e = refl
set_again (z ∷ zs) zero x e = ap (λ (y : _). y ∷ zs) (is_it z x e)
  where
    is_it : {A : Type 0} (a b : A) → Some a ≡ Some b → b ≡ a
    is_it a b e = cc
set_again (z ∷ zs) (suc m) x e = ap (λ (l : List _). z ∷ l) (set_again zs m x e)

pub some_is : {A : Type 0} (a b : A) → Some a ≡ Some b → a ≡ b
some_is a b e = cc

-- a place that is there
pub there : {A : Type 0} (xs : List A) (m : ℕ) → m < length xs → (x : A) × (slice_get xs m ≡ Some x)
there [] m lt = absurd (nothing m lt)
there (x ∷ xs) zero lt = (x, refl)
there (x ∷ xs) (suc m) lt = there xs m (omega arith)

-- no value
pub none_left : {A : Type 0} (xs : List A) → length xs ≡ 0 → xs ≡ []
none_left [] e = refl
none_left (x ∷ xs) e = absurd cc
