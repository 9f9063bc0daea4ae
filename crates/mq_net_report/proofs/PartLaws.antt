-- Parts of lists that end where the list does.
use Rattle.std.proofs.Common.{ℕ, zero, suc, Bool, true, false, cond, length-append, ◌≡◌, ◌+◌, ◌≤◌, inl, inr, List, [], ◌∷◌, ◌++◌, None, refl, ap, sym, ◌∙◌, arith, length, take, drop}
use Rattle.std.specs.Prelude.{slice_get, min, count_by, filter}
use Rattle.std.proofs.lemmas.List.Sums.{length-filter}
use Rattle.std.proofs.lemmas.Bool.{cases_lt}

pub get_nil : {X : Type 0} (n : ℕ) → slice_get {X = X} [] n ≡ None
get_nil zero = refl
get_nil (suc n) = refl

take_long : {X : Type 0} (n : ℕ) (xs : List X) → length xs ≤ n → take n xs ≡ xs
take_long zero [] le = refl
take_long (suc n) [] le = refl
take_long zero (x ∷ xs) le = absurd (omega arith)
take_long {X} (suc n) (x ∷ xs) le = ap (λ (l : List X). x ∷ l) (take_long n xs (omega arith))

drop_long : {X : Type 0} (n : ℕ) (xs : List X) → length xs ≤ n → drop n xs ≡ []
drop_long zero [] le = refl
drop_long (suc n) [] le = refl
drop_long zero (x ∷ xs) le = absurd (omega arith)
drop_long (suc n) (x ∷ xs) le = drop_long n xs (omega arith)

pub take_within : {X : Type 0} (n : ℕ) (xs : List X) → take (min n (length xs)) xs ≡ take n xs
take_within {X} n xs = elim (cases_lt n (length xs)) [
  | inl lt ↦ (let m : min n (length xs) ≡ n = omega arith in ap (λ (k : ℕ). take k xs) m)
  | inr le ↦ (let m : min n (length xs) ≡ length xs = omega arith in ap (λ (k : ℕ). take k xs) m ∙ take_long (length xs) xs (omega arith) ∙ sym (take_long n xs le))
]

pub drop_within : {X : Type 0} (n : ℕ) (xs : List X) → drop (min n (length xs)) xs ≡ drop n xs
drop_within {X} n xs = elim (cases_lt n (length xs)) [
  | inl lt ↦ (let m : min n (length xs) ≡ n = omega arith in ap (λ (k : ℕ). drop k xs) m)
  | inr le ↦ (let m : min n (length xs) ≡ length xs = omega arith in ap (λ (k : ℕ). drop k xs) m ∙ drop_long (length xs) xs (omega arith) ∙ sym (drop_long n xs le))
]

pub append_nil : {X : Type 0} (xs : List X) → xs ++ [] ≡ xs
append_nil [] = refl
append_nil {X} (x ∷ xs) = ap (λ (l : List X). x ∷ l) (append_nil xs)

-- How many pass, of two lists.
filter_step : {X : Type 0} (x : X) (a b : List X) (t : Bool) → cond t (x ∷ (a ++ b)) (a ++ b) ≡ cond t (x ∷ a) a ++ b
filter_step x a b true = refl
filter_step x a b false = refl

filter_append : {X : Type 0} (test : X → Bool) (xs ys : List X) → filter test (xs ++ ys) ≡ filter test xs ++ filter test ys
filter_append test [] ys = refl
filter_append {X} test (x ∷ xs) ys = ap (λ (l : List X). cond (test x) (x ∷ l) l) (filter_append test xs ys) ∙ filter_step x (filter test xs) (filter test ys) (test x)

pub count_append : {X : Type 0} (test : X → Bool) (xs ys : List X) → count_by test (xs ++ ys) ≡ count_by test xs + count_by test ys
count_append {X} test xs ys =
    sym (length-filter test (xs ++ ys)) ∙ ap (λ (l : List X). length l) (filter_append test xs ys) ∙ length-append (filter test xs) (filter test ys)
    ∙ ap (λ (n : ℕ). n + length (filter test ys)) (length-filter test xs) ∙ ap (λ (n : ℕ). count_by test xs + n) (length-filter test ys)
