-- Lists all of whose items are so, lists none of whose items are the same, and places that were found.
use Rattle.std.proofs.Common.{◌≡◌, ◌≢◌, ℕ, ◌<◌, Bool, true, false, List, [], ◌∷◌, ◌++◌, length, map, sym, ◌∙◌, arith}
use Rattle.std.proofs.lemmas.Grind.{common_steps}
use Rattle.std.specs.Prelude.{All, AllPairs, position, Some, None}
use Rattle.std.specs.Str.{bytes_eq}
use Rattle.std.proofs.lemmas.List.Elements.{All-nil, All-cons}
use Rattle.std.proofs.lemmas.List.Kept.{AllPairs-cons}
use Rattle.std.proofs.lemmas.List.Quantifiers.{position-Some}
use Rattle.std.proofs.lemmas.Slice.Eq.{bytes_eq-Decides}

abbrev pub Each : {A : Type 0} → (A → Type 0) → List A → Type 0
Each P [] = Unit {0}
Each P (x ∷ xs) = P x × Each P xs

pub each_more : {A : Type 0} (P : A → Type 0) (xs : List A) (x : A) → Each P xs → P x → Each P (xs ++ x ∷ [])
each_more P [] x h p = (p, tt)
each_more P (y ∷ xs) x h p = (h.0, each_more P xs x h.1 p)

pub each_map : {A : Type 0} (P Q : A → Type 0) (xs : List A) → ((x : A) → P x → Q x) → Each P xs → Each Q xs
each_map P Q [] f h = tt
each_map P Q (x ∷ xs) f h = (f x h.0, each_map P Q xs f h.1)

pub each_all : {A : Type 0} (P : A → Type 0) (xs : List A) → Each P xs → All P xs
each_all P [] h = All-nil P
each_all P (x ∷ xs) h = All-cons P x xs h.0 (each_all P xs h.1)

pub each_join : {A : Type 0} (P : A → Type 0) (xs ys : List A) → Each P xs → Each P ys → Each P (xs ++ ys)
each_join P [] ys h k = k
each_join P (x ∷ xs) ys h k = (h.0, each_join P xs ys h.1 k)

each_insert : {A : Type 0} (P : A → Type 0) (xs ys : List A) (x : A) → Each P (xs ++ ys) → P x → Each P (xs ++ x ∷ ys)
each_insert P [] ys x h p = (p, h)
each_insert P (y ∷ xs) ys x h p = (h.0, each_insert P xs ys x h.1 p)

-- ---- none is the same as another

abbrev pub Apart : {A : Type 0} → List A → Type 0
Apart [] = Unit {0}
Apart (x ∷ xs) = Each (λ y. x ≢ y) xs × Apart xs

turned : {A : Type 0} (x y : A) → x ≢ y → y ≢ x
turned x y n e = n (sym e)

pub apart_insert : {A : Type 0} (xs ys : List A) (x : A) → Apart (xs ++ ys) → Each (λ y. x ≢ y) (xs ++ ys) → Apart (xs ++ x ∷ ys)
apart_insert [] ys x h n = (n, h)
apart_insert (y ∷ xs) ys x h n = (each_insert (λ z. y ≢ z) xs ys x h.0 (turned x y n.0), apart_insert xs ys x h.1 n.1)

pub apart_more : {A : Type 0} (xs : List A) (x : A) → Apart xs → Each (λ y. x ≢ y) xs → Apart (xs ++ x ∷ [])
apart_more [] x h n = (tt, tt)
apart_more (y ∷ xs) x h n = (each_more (λ z. y ≢ z) xs x h.0 (turned x y n.0), apart_more xs x h.1 n.1)

pub apart_all : {A : Type 0} (xs : List A) → Apart xs → AllPairs (λ x y. x ≢ y) xs
apart_all [] h = λ i j d lt within. absurd (omega arith)
apart_all (x ∷ xs) h = AllPairs-cons (λ x y. x ≢ y) x xs (each_all (λ y. x ≢ y) xs h.0) (apart_all xs h.1)

-- ---- places

pub found_within : {A : Type 0} (p : A → Bool) (xs : List A) (i : ℕ) → position p xs ≡ Some i → i < length xs
found_within p [] i e = absurd cc
found_within p (x ∷ xs) i e = (position-Some p (x ∷ xs) i x e).0

none_first : {A : Type 0} (p : A → Bool) (x : A) (xs : List A) → position p (x ∷ xs) ≡ None → p x ≡ false
none_first p x xs e = grind (arith, common_steps)

none_later : {A : Type 0} (p : A → Bool) (x : A) (xs : List A) → position p (x ∷ xs) ≡ None → position p xs ≡ None
none_later p x xs e = grind (arith, common_steps)

unlike : (name other : List ℕ) → bytes_eq other name ≡ false → name ≢ other
unlike name other e same =
    let f : bytes_eq other name ≡ true = (bytes_eq-Decides other name).1 (sym same) in
    let g : true ≡ false = sym f ∙ e in
    absurd cc

-- a name that no item has
pub absent : {A : Type 0} (f : A → List ℕ) (name : List ℕ) (xs : List A) → position (λ (x : A). bytes_eq (f x) name) xs ≡ None → Each (λ y. name ≢ y) (map f xs)
absent f name [] e = tt
absent f name (x ∷ xs) e = (unlike name (f x) (none_first (λ x. bytes_eq (f x) name) x xs e), absent f name xs (none_later (λ x. bytes_eq (f x) name) x xs e))
