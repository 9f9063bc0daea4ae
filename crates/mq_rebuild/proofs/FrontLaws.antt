-- Lists of which each element is seen beside those in front of it.
use Rattle.std.proofs.Common.{suc, List, [], ◌∷◌, ◌++◌, sym, subst, append_assoc, arith}
use Rattle.std.specs.Prelude.{AllPairs}
use Rattle.std.specs.List.{AllByRecursion}
use Rattle.std.proofs.lemmas.List.Elements.{recursion_from_All}

-- each element is so beside all in front of it
abbrev pub Fronts : {A : Type 0} → (A → A → Type 0) → List A → List A → Type 0
Fronts R done [] = Unit {0}
Fronts R done (x ∷ xs) = AllByRecursion (λ y. R y x) done × Fronts R (done ++ x ∷ []) xs

abbrev Chain : {A : Type 0} → (A → A → Type 0) → List A → Type 0
Chain R [] = Unit {0}
Chain R (x ∷ xs) = AllByRecursion (R x) xs × Chain R xs

chain : {A : Type 0} (R : A → A → Type 0) (xs : List A) → AllPairs R xs → Chain R xs
chain R [] h = tt
chain R (x ∷ xs) h = (
  recursion_from_All (R x) xs (λ k d lt. h 0 (suc k) d (omega arith) (omega (arith, lt))),
  chain R xs (λ i j d lt within. h (suc i) (suc j) d (omega (arith, lt)) (omega (arith, within))),
)

module _ {A : Type 0} (R : A → A → Type 0) where
  at : (P : A → Type 0) (ys : List A) (x : A) (xs : List A) → AllByRecursion P (ys ++ x ∷ xs) → P x
  at P [] x xs h = h.0
  at P (y ∷ ys) x xs h = at P ys x xs h.1

  front : (done : List A) (x : A) (xs : List A) → Chain R (done ++ x ∷ xs) → AllByRecursion (λ y. R y x) done
  front [] x xs h = tt
  front (y ∷ ys) x xs h = (at (R y) ys x xs h.0, front ys x xs h.1)

  fronts_of : (done xs : List A) → Chain R (done ++ xs) → Fronts R done xs
  fronts_of done [] h = tt
  fronts_of done (x ∷ xs) h = (front done x xs h, fronts_of (done ++ x ∷ []) xs (subst (Chain R) (sym (append_assoc done (x ∷ []) xs)) h))

  pub fronts : (xs : List A) → AllPairs R xs → Fronts R [] xs
  fronts xs h = fronts_of [] xs (chain R xs h)
