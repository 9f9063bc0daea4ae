-- Lists by place: what stands there, at the end, and after a change at one place.
use Rattle.std.proofs.Common.{◌≡◌, ◌≢◌, ◌<◌, ◌≤◌, ℕ, zero, suc, List, [], ◌∷◌, ◌++◌, length, drop, refl, sym, ap, ◌∙◌, inl, inr, ⊎_elim, arith}
use Rattle.std.specs.Prelude.{◌⊎◌, Some, map, slice_get, slice_set}

pub some_is : {A : Type 0} (x y : A) → Some x ≡ Some y → x ≡ y
some_is x y e = cc

pub get_first : {A : Type 0} (xs ys : List A) (k : ℕ) (x : A) → slice_get xs k ≡ Some x → slice_get (xs ++ ys) k ≡ Some x
get_first [] ys k x e = absurd (cc e)
get_first (y ∷ xs) ys zero x e = e
get_first (y ∷ xs) ys (suc k) x e = get_first xs ys k x e

pub get_last : {A : Type 0} (xs : List A) (x : A) → slice_get (xs ++ x ∷ []) (length xs) ≡ Some x
get_last [] x = refl
get_last (y ∷ xs) x = get_last xs x

pub at_end : {A : Type 0} (xs : List A) (x y : A) (k : ℕ) → slice_get (xs ++ x ∷ []) k ≡ Some y → (slice_get xs k ≡ Some y) ⊎ ((k ≡ length xs) × (x ≡ y))
at_end [] x y zero e = inr (refl, cc e)
at_end [] x y (suc k) e = absurd (cc e)
at_end (z ∷ xs) x y zero e = inl e
at_end (z ∷ xs) x y (suc k) e = ⊎_elim (λ (p : slice_get xs k ≡ Some y). inl p) (λ (p : (k ≡ length xs) × (x ≡ y)). inr (ap suc p.0, p.1)) (at_end xs x y k e)

pub get_set : {A : Type 0} (xs : List A) (k j : ℕ) (x w : A) → slice_get (slice_set xs k x) j ≡ Some w → ((j ≡ k) × (x ≡ w)) ⊎ ((j ≢ k) × (slice_get xs j ≡ Some w))
get_set [] k j x w e = inr ((λ p. cc e), e)
get_set (y ∷ xs) zero zero x w e = inl (refl, cc e)
get_set (y ∷ xs) zero (suc j) x w e = inr ((λ p. omega (arith, p)), e)
get_set (y ∷ xs) (suc k) zero x w e = inr ((λ p. omega (arith, p)), e)
get_set (y ∷ xs) (suc k) (suc j) x w e =
    ⊎_elim (λ (p : (j ≡ k) × (x ≡ w)). inl (ap suc p.0, p.1)) (λ (p : (j ≢ k) × (slice_get xs j ≡ Some w)). inr ((λ q. p.0 (omega (arith, q))), p.1)) (get_set xs k j x w e)

pub set_mine : {A : Type 0} (xs : List A) (k : ℕ) (x y : A) → slice_get xs k ≡ Some y → slice_get (slice_set xs k x) k ≡ Some x
set_mine [] k x y e = absurd (cc e)
set_mine (z ∷ xs) zero x y e = refl
set_mine (z ∷ xs) (suc k) x y e = set_mine xs k x y e

pub set_other : {A : Type 0} (xs : List A) (k j : ℕ) (x : A) → j ≢ k → slice_get (slice_set xs k x) j ≡ slice_get xs j
set_other [] k j x apart = refl
set_other (z ∷ xs) zero zero x apart = absurd (apart refl)
set_other (z ∷ xs) zero (suc j) x apart = refl
set_other (z ∷ xs) (suc k) zero x apart = refl
set_other (z ∷ xs) (suc k) (suc j) x apart = set_other xs k j x (λ p. apart (ap suc p))

pub set_same : {A : Type 0} (xs : List A) (k : ℕ) (x : A) → slice_get xs k ≡ Some x → slice_set xs k x ≡ xs
set_same [] k x e = absurd (cc e)
set_same (z ∷ xs) zero x e = ap (λ (y : _). y ∷ xs) (sym (some_is z x e))
set_same (z ∷ xs) (suc k) x e = ap (λ (ys : List _). z ∷ ys) (set_same xs k x e)

pub set_twice : {A : Type 0} (xs : List A) (k : ℕ) (x y : A) → slice_set (slice_set xs k x) k y ≡ slice_set xs k y
set_twice [] k x y = refl
set_twice (z ∷ xs) zero x y = refl
set_twice (z ∷ xs) (suc k) x y = ap (λ (ys : List _). z ∷ ys) (set_twice xs k x y)

pub set_long : {A : Type 0} (xs : List A) (k : ℕ) (x : A) → length (slice_set xs k x) ≡ length xs
set_long [] k x = refl
set_long (z ∷ xs) zero x = refl
set_long (z ∷ xs) (suc k) x = ap suc (set_long xs k x)

pub within : {A : Type 0} (xs : List A) (k : ℕ) (x : A) → slice_get xs k ≡ Some x → k < length xs
within [] k x e = absurd (cc e)
within (z ∷ xs) zero x e = omega arith
within (z ∷ xs) (suc k) x e = let i = within xs k x e in omega (arith, i)

pub there : {A : Type 0} (xs : List A) (k : ℕ) → k < length xs → (x : A) × (slice_get xs k ≡ Some x)
there [] k lt = absurd (omega (arith, lt))
there (z ∷ xs) zero lt = (z, refl)
there (z ∷ xs) (suc k) lt = there xs k (omega (arith, lt))

pub get_map : {A B : Type 0} (f : A → B) (xs : List A) (k : ℕ) (x : A) → slice_get xs k ≡ Some x → slice_get (map f xs) k ≡ Some (f x)
get_map f [] k x e = absurd (cc e)
get_map f (z ∷ xs) zero x e = ap (λ (y : _). Some (f y)) (some_is z x e)
get_map f (z ∷ xs) (suc k) x e = get_map f xs k x e

pub long_snoc : {A : Type 0} (xs : List A) (x : A) → length (xs ++ x ∷ []) ≡ suc (length xs)
long_snoc [] x = refl
long_snoc (y ∷ xs) x = ap suc (long_snoc xs x)

pub map_snoc : {A B : Type 0} (f : A → B) (xs : List A) (x : A) → map f (xs ++ x ∷ []) ≡ map f xs ++ f x ∷ []
map_snoc f [] x = refl
map_snoc f (y ∷ xs) x = ap (λ (zs : List _). f y ∷ zs) (map_snoc f xs x)

pub snoc_first : {A : Type 0} (xs ys : List A) (x y : A) → xs ++ x ∷ [] ≡ ys ++ y ∷ [] → (xs ≡ ys) × (x ≡ y)
snoc_first [] [] x y e = (refl, cc e)
snoc_first [] (z ∷ []) x y e = absurd (cc e)
snoc_first [] (z ∷ w ∷ ys) x y e = absurd (cc e)
snoc_first (z ∷ []) [] x y e = absurd (cc e)
snoc_first (z ∷ w ∷ xs) [] x y e = absurd (cc e)
snoc_first (z ∷ xs) (w ∷ ys) x y e =
    let tails : xs ++ x ∷ [] ≡ ys ++ y ∷ [] = cc e in
    let heads : z ≡ w = cc e in
    let more = snoc_first xs ys x y tails in (ap (λ (u : _). u ∷ xs) heads ∙ ap (λ (us : List _). w ∷ us) more.0, more.1)

pub drop_at : {A : Type 0} (xs : List A) (k : ℕ) (x : A) → slice_get xs k ≡ Some x → drop k xs ≡ x ∷ drop (suc k) xs
drop_at [] k x e = absurd (cc e)
drop_at (z ∷ xs) zero x e = ap (λ (y : _). y ∷ xs) (some_is z x e)
drop_at (z ∷ xs) (suc k) x e = drop_at xs k x e

pub drop_past : {A : Type 0} (xs : List A) (k : ℕ) → length xs ≤ k → drop k xs ≡ []
drop_past [] zero h = refl
drop_past [] (suc k) h = refl
drop_past (z ∷ xs) zero h = absurd (omega (arith, h))
drop_past (z ∷ xs) (suc k) h = drop_past xs k (omega (arith, h))

pub before : (a b : ℕ) → a < suc b → (a < b) ⊎ (a ≡ b)
before zero zero l = inr refl
before zero (suc b) l = inl (omega arith)
before (suc a) zero l = absurd (omega (arith, l))
before (suc a) (suc b) l = ⊎_elim (λ (p : a < b). inl (omega (arith, p))) (λ (p : a ≡ b). inr (ap suc p)) (before a b (omega (arith, l)))
