-- Numbers are distinct where none is among those behind it.
use Rattle.std.proofs.Common.{◌≡◌, ◌++◌, ◌∷◌, [], ℕ, List, Bool, true, false, cond, refl, ap, ◌∙◌, sym, append_assoc}
use Rattle.std.specs.Prelude.{not, ◌&&◌, ◌||◌, ◌==◌}
use Rattle.std.specs.HashSet.{HashSet, contains, Updates}
use Rattle.mq_scn_heading.specs.Distinct.{are_distinct, is_among}

both_hold : (a b : Bool) → a ≡ false → b ≡ true → (not a && b) ≡ true
both_hold a b e f = rw (e, f) refl

one_fails : (a b : Bool) → a ≡ true → (not a && b) ≡ false
one_fails a b e = rw e refl

rest_fails : (a b : Bool) → b ≡ false → (a && b) ≡ false
rest_fails true b e = e
rest_fails false b e = refl

-- a number that is among those behind it
pub twice : (front : List ℕ) (number : ℕ) (behind : List ℕ) → is_among number behind ≡ true → are_distinct (front ++ number ∷ behind) ≡ false
twice [] number behind e = one_fails (is_among number behind) (are_distinct behind) e
twice (x ∷ front) number behind e = rest_fails (not (is_among x (front ++ number ∷ behind))) (are_distinct (front ++ number ∷ behind)) (twice front number behind e)

-- the numbers that a set holds are those behind
abbrev pub Holds : {S : Type 0} → HashSet (ℕ) S → List ℕ → Type 0
Holds seen behind = (key : ℕ) → contains (λ a b. a == b) seen key ≡ is_among key behind

joined : (t a b : Bool) → a ≡ b → cond t true a ≡ (t || b)
joined true a b e = refl
joined false a b e = e

holds_more : {S : Type 0} (old new : HashSet (ℕ) S) (number : ℕ) (behind : List ℕ) → Holds old behind → Updates (λ a b. a == b) old new number true → Holds new (number ∷ behind)
holds_more old new number behind h u key = u.0 key ∙ joined (number == key) (contains (λ a b. a == b) old key) (is_among key behind) (h key)

told_no : (a b c : Bool) → b ≡ not a → b ≡ false → a ≡ c → c ≡ true
told_no true b c e f g = sym g
told_no false b c e f g = absurd cc

told_yes : (a b c : Bool) → b ≡ not a → b ≡ true → a ≡ c → c ≡ false
told_yes true b c e f g = absurd cc
told_yes false b c e f g = sym g

joined_numbers : (numbers rest others : List ℕ) (number : ℕ) (behind : List ℕ) → numbers ≡ rest ++ behind → rest ≡ others ++ number ∷ [] → numbers ≡ others ++ number ∷ behind
joined_numbers numbers rest others number behind n r = n ∙ ap (λ (l : List ℕ). l ++ behind) r ∙ append_assoc others (number ∷ []) behind

-- the last number of the rest was there
pub found_twice : {S : Type 0} (numbers rest others : List ℕ) (number : ℕ) (behind : List ℕ) (old : HashSet (ℕ) S) (added : Bool) → numbers ≡ rest ++ behind → rest ≡ others ++ number ∷ []
    → Holds old behind → added ≡ not (contains (λ a b. a == b) old number) → added ≡ false → false ≡ are_distinct numbers
found_twice numbers rest others number behind old added n r h e f =
    sym (ap are_distinct (joined_numbers numbers rest others number behind n r) ∙ twice others number behind (told_no (contains (λ a b. a == b) old number) added (is_among number behind) e f (h number)))

-- the last number of the rest was not there
pub found_once : {S : Type 0} (numbers rest others : List ℕ) (number : ℕ) (behind : List ℕ) (old new : HashSet (ℕ) S) (added : Bool) → numbers ≡ rest ++ behind → rest ≡ others ++ number ∷ []
    → are_distinct behind ≡ true → Holds old behind → added ≡ not (contains (λ a b. a == b) old number) → added ≡ true → Updates (λ a b. a == b) old new number true
    → (more : List ℕ) × (numbers ≡ others ++ more) × (are_distinct more ≡ true) × Holds new more
found_once numbers rest others number behind old new added n r d h e t u =
    let apart : is_among number behind ≡ false = told_yes (contains (λ a b. a == b) old number) added (is_among number behind) e t (h number) in
    (number ∷ behind, joined_numbers numbers rest others number behind n r, both_hold (is_among number behind) (are_distinct behind) apart d, holds_more old new number behind h u)
