-- A list whose elements are changed one after the other.
use Rattle.std.proofs.Common.{◌≡◌, ℕ, zero, suc, ◌+◌, ◌<◌, List, [], ◌∷◌, ◌++◌, length, take, drop, refl, ap, arith, sym, ◌∙◌, add-one}
use Rattle.std.specs.Prelude.{Some, map, slice_get, slice_set}

mapped_suc : {X : Type 0} (f : X → X) (xs : List X) (i : ℕ) (old : X) → i < length xs → slice_get (map f (take i xs) ++ drop i xs) i ≡ Some old → slice_set (map f (take i xs) ++ drop i xs) i (f old) ≡ map f (take (suc i) xs) ++ drop (suc i) xs
mapped_suc f [] i old lt e = absurd (omega (arith, lt))
mapped_suc f (x ∷ xs) zero old lt e = grind (arith)
mapped_suc f (x ∷ xs) (suc i) old lt e = grind (arith, mapped_suc f xs i old)

pub mapped_next : {X : Type 0} (f : X → X) (xs ys : List X) (i : ℕ) (old new : X) → ys ≡ map f (take i xs) ++ drop i xs → i < length xs → slice_get ys i ≡ Some old → new ≡ f old → slice_set ys i new ≡ map f (take (i + 1) xs) ++ drop (i + 1) xs
mapped_next f xs ys i old new so_far lt e is =
    ap (slice_set ys i) is ∙ ap (λ (l : List _). slice_set l i (f old)) so_far
    ∙ mapped_suc f xs i old lt (ap (λ (l : List _). slice_get l i) (sym so_far) ∙ e)
    ∙ ap (λ (n : ℕ). map f (take n xs) ++ drop n xs) (sym (add-one i))

pub mapped_all : {X : Type 0} (f : X → X) (xs : List X) → map f (take (length xs) xs) ++ drop (length xs) xs ≡ map f xs
mapped_all f [] = refl
mapped_all f (x ∷ xs) = ap (λ (l : List _). f x ∷ l) (mapped_all f xs)

pub mapped_long : {X : Type 0} (f : X → X) (xs : List X) (i : ℕ) → length (map f (take i xs) ++ drop i xs) ≡ length xs
mapped_long f [] zero = refl
mapped_long f [] (suc i) = refl
mapped_long f (x ∷ xs) zero = refl
mapped_long f (x ∷ xs) (suc i) = omega (arith, mapped_long f xs i)
