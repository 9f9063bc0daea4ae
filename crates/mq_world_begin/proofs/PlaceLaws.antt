-- Lists that grow by one, place by place.
use Rattle.std.proofs.Common.{◌≡◌, ℕ, zero, suc, ◌+◌, ◌≤◌, List, [], ◌∷◌, ◌++◌, length, refl, sym, ap, subst, ◌∙◌, arith, inl, inr}
use Rattle.std.specs.Prelude.{◌⊎◌, None, Some, slice_get}

pub some_is : {A : Type 0} (a b : A) → Some a ≡ Some b → a ≡ b
some_is a b e = cc

-- at a place of a longer list
pub at_more : {A : Type 0} (xs : List A) (x y : A) (m : ℕ) → slice_get (xs ++ x ∷ []) m ≡ Some y → (slice_get xs m ≡ Some y) ⊎ ((m ≡ length xs) × (x ≡ y))
at_more [] x y zero e = inr (refl, some_is x y e)
at_more [] x y (suc zero) e = absurd cc
at_more [] x y (suc (suc m)) e = absurd cc
at_more (z ∷ zs) x y zero e = inl e
at_more (z ∷ zs) x y (suc m) e = up (at_more zs x y m e)
  where
    up : (slice_get zs m ≡ Some y) ⊎ ((m ≡ length zs) × (x ≡ y)) → (slice_get zs m ≡ Some y) ⊎ ((suc m ≡ suc (length zs)) × (x ≡ y))
    up (inl h) = inl h
    up (inr (h, k)) = inr (ap suc h, k)

pub none_there : {A : Type 0} (xs : List A) (m : ℕ) (x : A) → xs ≡ [] → slice_get xs m ≡ Some x → ⊥
none_there xs m x none e = nothing m (ap (λ (ys : List _). slice_get ys m) (sym none) ∙ e)
  where
    nothing : {A : Type 0} {y : A} (n : ℕ) → slice_get [] n ≡ Some y → ⊥
    nothing zero h = absurd cc
    nothing (suc n) h = absurd cc

pub past_none : {A : Type 0} (xs : List A) (m : ℕ) → length xs ≤ m → slice_get xs m ≡ None
past_none [] zero le = refl
past_none [] (suc m) le = refl
past_none (x ∷ xs) zero le = absurd (low (length xs) le)
  where
    low : (n : ℕ) → suc n ≤ 0 → ⊥
    low n h = omega arith
past_none (x ∷ xs) (suc m) le = past_none xs m (omega arith)

-- one more of which it holds at each place
pub each_more : {A : Type 0} (P : ℕ → A → Type 0) (xs ys : List A) (x : A) (i : ℕ) → length xs ≡ i → ys ≡ xs ++ x ∷ [] → P i x → ((m : ℕ) (y : A) → slice_get xs m ≡ Some y → P m y) → (m : ℕ) (y : A) → slice_get ys m ≡ Some y → P m y
each_more P xs ys x i many more here each m y e = by_place (at_more xs x y m (ap (λ (zs : List _). slice_get zs m) (sym more) ∙ e))
  where
    by_place : (slice_get xs m ≡ Some y) ⊎ ((m ≡ length xs) × (x ≡ y)) → P m y
    by_place (inl h) = each m y h
    by_place (inr (h, k)) = subst (λ (z : _). P m z) k (subst (λ (n : ℕ). P n x) (sym (h ∙ many)) here)

pub long_more : {A : Type 0} (xs ys : List A) (x : A) (i : ℕ) → length xs ≡ i → ys ≡ xs ++ x ∷ [] → length ys ≡ i + 1
long_more xs ys x i many more = ap length more ∙ one_more xs x ∙ ap (λ (n : ℕ). n + 1) many
  where
    one_more : {A : Type 0} (zs : List A) (z : A) → length (zs ++ z ∷ []) ≡ length zs + 1
    one_more [] z = refl
    one_more (w ∷ zs) z = let h = one_more zs z in omega (arith, h)

-- lists of one length have something at the same places
pub both_there : {A B : Type 0} (xs : List A) (ys : List B) (m : ℕ) (x : A) → length xs ≡ length ys → slice_get xs m ≡ Some x → slice_get ys m ≡ None → ⊥
both_there [] ys zero x long e none = absurd cc
both_there [] ys (suc m) x long e none = absurd cc
both_there (a ∷ xs) [] m x long e none = omega (arith, long)
both_there (a ∷ xs) (b ∷ ys) zero x long e none = absurd cc
both_there (a ∷ xs) (b ∷ ys) (suc m) x long e none = both_there xs ys m x (down (length xs) (length ys) long) e none
  where
    down : (i j : ℕ) → suc i ≡ suc j → i ≡ j
    down i j k = omega (arith, k)
