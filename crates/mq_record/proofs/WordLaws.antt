-- The bytes in front of the first blank.
use Rattle.std.proofs.Common.{◌≡◌, ℕ, zero, suc, ◌<◌, ◌≤◌, Bool, true, false, List, [], ◌∷◌, ◌++◌, length, get_or, take, replicate, Some, None, refl, sym, ap, ◌∙◌, arith, eqb}
use Rattle.std.specs.Prelude.{position}
use Rattle.std.specs.List.{position_or_len, list_all}
use Rattle.std.proofs.lemmas.List.{take_all}
use Rattle.std.proofs.lemmas.List.Sums.{fails_before_first}
use Rattle.std.proofs.lemmas.List.Quantifiers.{position-Some}
use Rattle.std.proofs.lemmas.Bool.{cond-true, cond-false, and_parts}
use Rattle.std.proofs.lemmas.Bool.Decides.{nat_tests}
use Rattle.mq_base.specs.Name.{is_name_byte}
use Rattle.mq_record.specs.Reading.{word_of}

abbrev is_blank : ℕ → Bool
is_blank byte = eqb byte 32

front_is : (xs : List ℕ) (n : ℕ) → n ≤ length xs → ((k : ℕ) → k < n → is_blank (get_or xs k 0) ≡ false) → (n < length xs → is_blank (get_or xs n 0) ≡ true) → take n xs ≡ word_of xs
front_is [] zero le before at = refl
front_is [] (suc n) le before at = absurd (omega arith)
front_is (x ∷ xs) zero le before at = sym (cond-true (eqb x 32) [] (x ∷ word_of xs) (at (omega arith)))
front_is (x ∷ xs) (suc n) le before at =
    ap (λ (z : List ℕ). x ∷ z) (front_is xs n (omega arith) (λ k lt. before (suc k) (omega arith)) (λ lt. at (omega arith)))
    ∙ sym (cond-false (eqb x 32) [] (x ∷ word_of xs) (before 0 (omega arith)))

pub word_at : (xs : List ℕ) (place : ℕ) → position is_blank xs ≡ Some place → take place xs ≡ word_of xs
word_at xs place e =
    let h = position-Some is_blank xs place 0 e in
    front_is xs place (omega (arith, h.0)) (λ k lt. h.2 k lt) (λ lt. h.1)

pub word_whole : (xs : List ℕ) → position is_blank xs ≡ None → xs ≡ word_of xs
word_whole xs e =
    let past : length xs ≤ position_or_len is_blank xs = grind (arith, nat_tests) in
    sym (take_all (length xs) xs (omega arith)) ∙ front_is xs (length xs) (omega arith) (λ k lt. fails_before_first is_blank xs k 0 (omega arith)) (λ lt. absurd (omega arith))

name_no_blank : (b : ℕ) → is_name_byte b ≡ true → is_blank b ≡ false
name_no_blank b e = grind (arith, nat_tests)

blanks_none : (n : ℕ) → word_of (replicate n 32) ≡ []
blanks_none zero = refl
blanks_none (suc n) = refl

-- a name in front of blanks
pub word_back : (name : List ℕ) (n : ℕ) → list_all is_name_byte name ≡ true → word_of (name ++ replicate n 32) ≡ name
word_back [] n all = blanks_none n
word_back (b ∷ name) n all =
    let h = and_parts (is_name_byte b) (list_all is_name_byte name) all in
    cond-false (eqb b 32) [] (b ∷ word_of (name ++ replicate n 32)) (name_no_blank b h.0) ∙ ap (λ (z : List ℕ). b ∷ z) (word_back name n h.1)
