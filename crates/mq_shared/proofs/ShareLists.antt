-- Lists by their places: one value more at the end, one value set.
use Rattle.std.proofs.Common.{◌≡◌, ◌≢◌, ℕ, zero, suc, ◌+◌, ◌≤◌, ◌<◌, Bool, true, false, List, [], ◌∷◌, ◌++◌, length, map, drop, refl, sym, ap, subst, ◌∙◌, inl, inr, ⊎_elim, arith}
use Rattle.std.specs.Prelude.{◌⊎◌, ◌==◌, ◌&&◌, ◌||◌, Some, None, slice_get, slice_set}
use Rattle.std.specs.List.{All, list_any}
use Rattle.std.proofs.lemmas.List.Elements.{All-get_or}
use Rattle.std.proofs.lemmas.Option.{get_or_from_slice_get, slice_get_within}
use Rattle.std.proofs.lemmas.Bool.Decides.{nat_tests}
use Rattle.mq_base.specs.Members.{Mem}
pub use Rattle.mq_shared.proofs.ScriptLaws.{less}

pub are_same : (a b : ℕ) → (a == b) ≡ true → a ≡ b
are_same a b e = grind (arith, nat_tests)

pub itself : (n : ℕ) → (n == n) ≡ true
itself n = grind (arith, nat_tests)

pub true_or_false : (b : Bool) → (b ≡ true) ⊎ (b ≡ false)
true_or_false true = inl refl
true_or_false false = inr refl

pub under_or_not : (i n : ℕ) → (i < n) ⊎ (n ≤ i)
under_or_not zero zero = inr (omega arith)
under_or_not zero (suc n) = inl (omega arith)
under_or_not (suc i) zero = inr (omega arith)
under_or_not (suc i) (suc n) = ⊎_elim (λ (h : i < n). inl (omega (arith, h))) (λ (h : n ≤ i). inr (omega (arith, h))) (under_or_not i n)

pub some_is : {A : Type 0} (a b : A) → Some a ≡ Some b → a ≡ b
some_is a b e = cc

pub both_so : (a b : Bool) → (a && b) ≡ true → (a ≡ true) × (b ≡ true)
both_so true b e = (refl, e)
both_so false b e = absurd cc

pub so_both : (a b : Bool) → a ≡ true → b ≡ true → (a && b) ≡ true
so_both true b e f = f
so_both false b e f = absurd cc

low : (n : ℕ) → n < 0 → ⊥
low n h = omega arith

pub there : {A : Type 0} (xs : List A) (m : ℕ) → m < length xs → (x : A) × (slice_get xs m ≡ Some x)
there [] m lt = absurd (low m lt)
there (x ∷ xs) zero lt = (x, refl)
there (x ∷ xs) (suc m) lt = there xs m (omega arith)

pub past : {A : Type 0} (xs : List A) (m : ℕ) → length xs ≤ m → slice_get xs m ≡ None
past [] m le = refl
past (x ∷ xs) zero le = absurd (low (length xs) (omega (arith, le)))
past (x ∷ xs) (suc m) le = past xs m (omega arith)

-- the last value of a longer list
pub last_at : {A : Type 0} (xs : List A) (x : A) → slice_get (xs ++ x ∷ []) (length xs) ≡ Some x
last_at [] x = refl
last_at (y ∷ ys) x = last_at ys x

pub at_front : {A : Type 0} (xs ys : List A) (m : ℕ) (y : A) → slice_get xs m ≡ Some y → slice_get (xs ++ ys) m ≡ Some y
at_front [] ys m y e = absurd cc
at_front (x ∷ xs) ys zero y e = e
at_front (x ∷ xs) ys (suc m) y e = at_front xs ys m y e

pub at_more : {A : Type 0} (xs : List A) (x y : A) (m : ℕ) → slice_get (xs ++ x ∷ []) m ≡ Some y → (slice_get xs m ≡ Some y) ⊎ ((m ≡ length xs) × (x ≡ y))
at_more [] x y zero e = inr (refl, some_is x y e)
at_more [] x y (suc m) e = absurd cc
at_more (z ∷ zs) x y zero e = inl e
at_more (z ∷ zs) x y (suc m) e =
    ⊎_elim (λ (p : slice_get zs m ≡ Some y). inl p) (λ (p : (m ≡ length zs) × (x ≡ y)). inr (ap suc p.0, p.1)) (at_more zs x y m e)

pub long_more : {A : Type 0} (xs : List A) (x : A) → length (xs ++ x ∷ []) ≡ length xs + 1
long_more [] x = refl
long_more (y ∷ ys) x = let h = long_more ys x in omega (arith, h)

pub long_map : {A B : Type 0} (f : A → B) (xs : List A) → length (map f xs) ≡ length xs
long_map f [] = refl
long_map f (x ∷ xs) = let h = long_map f xs in omega (arith, h)

pub map_more : {A B : Type 0} (f : A → B) (xs : List A) (x : A) → map f (xs ++ x ∷ []) ≡ map f xs ++ f x ∷ []
map_more f [] x = refl
map_more f (y ∷ ys) x = ap (λ (l : List _). f y ∷ l) (map_more f ys x)

pub map_at : {A B : Type 0} (f : A → B) (xs : List A) (i : ℕ) (x : A) → slice_get xs i ≡ Some x → slice_get (map f xs) i ≡ Some (f x)
map_at f [] i x e = absurd cc
map_at f (y ∷ ys) zero x e = ap Some (ap f (some_is y x e))
map_at f (y ∷ ys) (suc i) x e = map_at f ys i x e

-- a value of one list is at a place of it
pub mem_at : {A B : Type 0} (f : A → B) (xs : List A) (y : B) → Mem y (map f xs) → (i : ℕ) × (x : A) × (slice_get xs i ≡ Some x) × (f x ≡ y)
mem_at f [] y h = absurd h
mem_at f (x ∷ xs) y (inl e) = (0, x, refl, sym e)
mem_at f (x ∷ xs) y (inr h) = let r = mem_at f xs y h in (suc r.0, r.1, r.2, r.3)

pub mem_right : {A : Type 0} (x : A) (xs ys : List A) → Mem x ys → Mem x (xs ++ ys)
mem_right x [] ys h = h
mem_right x (y ∷ xs) ys h = inr (mem_right x xs ys h)

pub mem_either : {A : Type 0} (x : A) (xs ys : List A) → Mem x (xs ++ ys) → Mem x xs ⊎ Mem x ys
mem_either x [] ys h = inr h
mem_either x (y ∷ xs) ys (inl e) = inl (inl e)
mem_either x (y ∷ xs) ys (inr h) = ⊎_elim (λ (p : Mem x xs). inl (inr p)) (λ (p : Mem x ys). inr p) (mem_either x xs ys h)

-- what is set at a place, and the others
pub set_here : {A : Type 0} (xs : List A) (m : ℕ) (y : A) → m < length xs → slice_get (slice_set xs m y) m ≡ Some y
set_here [] m y lt = absurd (low m lt)
set_here (x ∷ xs) zero y lt = refl
set_here (x ∷ xs) (suc m) y lt = set_here xs m y (omega arith)

pub set_other : {A : Type 0} (xs : List A) (m n : ℕ) (y : A) → n ≢ m → slice_get (slice_set xs m y) n ≡ slice_get xs n
set_other [] m n y e = refl
set_other (x ∷ xs) zero zero y e = absurd (e refl)
set_other (x ∷ xs) zero (suc n) y e = refl
set_other (x ∷ xs) (suc m) zero y e = refl
set_other (x ∷ xs) (suc m) (suc n) y e = set_other xs m n y (λ p. e (ap suc p))

pub set_long : {A : Type 0} (xs : List A) (n : ℕ) (x : A) → length (slice_set xs n x) ≡ length xs
set_long [] n y = refl
set_long (x ∷ xs) zero y = refl
set_long (x ∷ xs) (suc n) y = let h = set_long xs n y in omega (arith, h)

-- what is left behind what was taken from the front
pub drop_all : {A : Type 0} (xs ys : List A) → drop (length xs) (xs ++ ys) ≡ ys
drop_all [] ys = refl
drop_all (x ∷ xs) ys = drop_all xs ys

pub drop_one : {A : Type 0} (xs : List A) (k : ℕ) (x : A) → slice_get xs k ≡ Some x → drop k xs ≡ x ∷ drop (suc k) xs
drop_one [] k x e = absurd cc
drop_one (y ∷ ys) zero x e = ap (λ (z : _). z ∷ ys) (some_is y x e)
drop_one (y ∷ ys) (suc k) x e = drop_one ys k x e

pub drop_none : {A : Type 0} (xs : List A) (k : ℕ) → length xs ≤ k → drop k xs ≡ []
drop_none [] zero le = refl
drop_none [] (suc k) le = refl
drop_none (x ∷ xs) zero le = absurd (low (length xs) (omega (arith, le)))
drop_none (x ∷ xs) (suc k) le = drop_none xs k (omega arith)

-- whether a number is one of these
pub any_mem : (ks : List ℕ) (k : ℕ) → list_any (λ (j : ℕ). j == k) ks ≡ true → Mem k ks
any_mem [] k e = absurd cc
any_mem (j ∷ js) k e = ⊎_elim
    (λ (t : (j == k) ≡ true). inl (sym (are_same j k t)))
    (λ (t : (j == k) ≡ false). inr (any_mem js k (sym (ap (λ (b : Bool). b || list_any (λ (i : ℕ). i == k) js) t) ∙ e)))
    (true_or_false (j == k))

pub mem_any : (ks : List ℕ) (k : ℕ) → Mem k ks → list_any (λ (j : ℕ). j == k) ks ≡ true
mem_any [] k h = absurd h
mem_any (j ∷ js) k (inl e) = ap (λ (b : Bool). b || list_any (λ (i : ℕ). i == k) js) (ap (λ (i : ℕ). i == k) (sym e) ∙ itself k)
mem_any (j ∷ js) k (inr h) = ⊎_elim
    (λ (t : (j == k) ≡ true). ap (λ (b : Bool). b || list_any (λ (i : ℕ). i == k) js) t)
    (λ (t : (j == k) ≡ false). ap (λ (b : Bool). b || list_any (λ (i : ℕ). i == k) js) t ∙ mem_any js k h)
    (true_or_false (j == k))

-- what holds of each of a list, at a place of it
pub at_it : {A : Type 0} (P : A → Type 0) (xs : List A) (k : ℕ) (x : A) → All P xs → slice_get xs k ≡ Some x → P x
at_it P xs k x all is = subst P (get_or_from_slice_get xs k x x is) (All-get_or P xs k x (slice_get_within xs k x is) all)

pub none_at : {A : Type 0} (xs : List A) (m : ℕ) (x : A) → xs ≡ [] → slice_get xs m ≡ Some x → ⊥
none_at xs m x none e = nothing m (ap (λ (ys : List _). slice_get ys m) (sym none) ∙ e)
  where
    nothing : {A : Type 0} {y : A} (n : ℕ) → slice_get [] n ≡ Some y → ⊥
    nothing n h = absurd cc

-- a list that is not empty has one at least
pub some_there : (n : ℕ) → false ≡ (n == 0) → 0 < n
some_there n h = grind (arith, nat_tests, h)
