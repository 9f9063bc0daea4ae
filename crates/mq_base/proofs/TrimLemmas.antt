-- A text without the blanks at its end, byte by byte from behind.
use Rattle.std.proofs.Common.{◌≡◌, ◌≢◌, ℕ, ◌+◌, ◌<◌, ◌==◌, false, List, [], ◌∷◌, ◌++◌, length, take, get_or, arith, refl, ap, sym, ◌∙◌}
use Rattle.std.proofs.lemmas.List.{take_more}
use Rattle.std.proofs.lemmas.Bool.Decides.{nat_tests}
use Rattle.mq_base.specs.Name.{onto_text, trimmed}

pub trimmed-blank : (xs : List ℕ) → trimmed (xs ++ 32 ∷ []) ≡ trimmed xs
trimmed-blank [] = refl
trimmed-blank (x ∷ xs) = ap (onto_text x) (trimmed-blank xs)

onto_some : (x b : ℕ) (xs : List ℕ) → onto_text x (xs ++ b ∷ []) ≡ x ∷ (xs ++ b ∷ [])
onto_some x b [] = refl
onto_some x b (y ∷ ys) = refl

pub trimmed-nonblank : (xs : List ℕ) (b : ℕ) → b ≢ 32 → trimmed (xs ++ b ∷ []) ≡ xs ++ b ∷ []
trimmed-nonblank [] b ne = let other : (b == 32) ≡ false = grind (arith, nat_tests) in rw other refl
trimmed-nonblank (x ∷ xs) b ne = ap (onto_text x) (trimmed-nonblank xs b ne) ∙ onto_some x b xs

-- a text is taken off a blank at its end
pub trimmed-take_blank : (xs : List ℕ) (n : ℕ) → n < length xs → get_or xs n 0 ≡ 32 → trimmed (take (n + 1) xs) ≡ trimmed (take n xs)
trimmed-take_blank xs n lt e =
    ap trimmed (take_more xs n 0 lt ∙ ap (λ (b : ℕ). take n xs ++ b ∷ []) e) ∙ trimmed-blank (take n xs)

-- and ends with another byte
pub trimmed-take_other : (xs : List ℕ) (n : ℕ) → n < length xs → get_or xs n 0 ≢ 32 → trimmed (take (n + 1) xs) ≡ take (n + 1) xs
trimmed-take_other xs n lt ne =
    let e = take_more xs n 0 lt in
    ap trimmed e ∙ trimmed-nonblank (take n xs) (get_or xs n 0) ne ∙ sym e
