-- Sums over a list in which one value takes the place of another, or is put between others.
use Rattle.std.proofs.Common.{◌≡◌, ℕ, Bool, true, false, cond, refl, suc, ◌+◌, List, [], ◌∷◌, ap, arith}
use Rattle.std.specs.Prelude.{◌||◌, Option, Some, None, slice_get, sum_by}
use Rattle.std.specs.Str.{bytes_eq}
use Rattle.std.proofs.lemmas.List.Sums.{sum_by-cons}
use Rattle.mq_unit.specs.from_calls.Words.{comes_before, set_named}
use Rattle.mq_sides.specs.Places.{place_in, counted, of_name, standing, IsSummed}

-- what is set by its name counts for what it takes the place of
pub set_summed : {A : Type 0} (name : A → List ℕ) (new : A) (xs : List A) → IsSummed (standing name (name new) xs) new xs (set_named name new xs)
set_summed name new [] f = let one : sum_by f (new ∷ []) ≡ f new + 0 = sum_by-cons f new [] in omega (arith, one)
set_summed {A} name new (x ∷ xs) f = by (bytes_eq (name new) (name x)) (comes_before (name new) (name x)) refl (set_summed name new xs f)
  where
    by : (b c : Bool) → bytes_eq (name new) (name x) ≡ b → sum_by f (set_named name new xs) + counted f (of_name name (name new) (slice_get xs (place_in name (name new) xs))) ≡ sum_by f xs + f new
        → sum_by f (cond b (new ∷ xs) (cond c (new ∷ x ∷ xs) (x ∷ set_named name new xs))) + counted f (of_name name (name new) (slice_get (x ∷ xs) (cond (b || c) 0 (suc (place_in name (name new) xs))))) ≡ sum_by f (x ∷ xs) + f new
    by true c e rest =
        let own : counted f (of_name name (name new) (Some x)) ≡ f x = ap (λ (t : Bool). counted f (cond {A = Option A} t (Some x) None)) e in
        let old : sum_by f (x ∷ xs) ≡ f x + sum_by f xs = sum_by-cons f x xs in
        let set : sum_by f (new ∷ xs) ≡ f new + sum_by f xs = sum_by-cons f new xs in
        let all : sum_by f (new ∷ xs) + counted f (of_name name (name new) (Some x)) ≡ sum_by f (x ∷ xs) + f new = omega (arith, own, old, set) in
        all
    by false true e rest =
        let none : counted f (of_name name (name new) (Some x)) ≡ 0 = ap (λ (t : Bool). counted f (cond {A = Option A} t (Some x) None)) e in
        let set : sum_by f (new ∷ x ∷ xs) ≡ f new + sum_by f (x ∷ xs) = sum_by-cons f new (x ∷ xs) in
        let all : sum_by f (new ∷ x ∷ xs) + counted f (of_name name (name new) (Some x)) ≡ sum_by f (x ∷ xs) + f new = omega (arith, none, set) in
        all
    by false false e rest =
        let old : sum_by f (x ∷ xs) ≡ f x + sum_by f xs = sum_by-cons f x xs in
        let set : sum_by f (x ∷ set_named name new xs) ≡ f x + sum_by f (set_named name new xs) = sum_by-cons f x (set_named name new xs) in
        let all : sum_by f (x ∷ set_named name new xs) + counted f (of_name name (name new) (slice_get xs (place_in name (name new) xs))) ≡ sum_by f (x ∷ xs) + f new = omega (arith, old, set, rest) in
        all
