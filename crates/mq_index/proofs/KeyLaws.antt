-- Keys that are the same.
use Rattle.std.proofs.Common.{◌≡◌, ℕ, Bool, true, false, List, refl, sym, ap, ◌∙◌, arith}
use Rattle.std.specs.Prelude.{◌==◌, ◌&&◌}
use Rattle.std.specs.Str.{bytes_eq}
use Rattle.std.proofs.lemmas.Bool.Decides.{nat_tests}
use Rattle.std.proofs.lemmas.Slice.Eq.{bytes_eq-Decides}
use Rattle.mq_index.specs.declared.keys.Key.{Key}
use Rattle.mq_index.specs.Keys.{same_key}

nat_same : (n : ℕ) → (n == n) ≡ true
nat_same n = grind (arith, nat_tests)

nat_turned : (n m : ℕ) → (n == m) ≡ (m == n)
nat_turned n m = grind (arith, nat_tests)

nat_chain : (n m k : ℕ) → (n == m) ≡ true → (n == k) ≡ (m == k)
nat_chain n m k e = grind (arith, nat_tests)

pub both_true : (a b : Bool) → (a && b) ≡ true → (a ≡ true) × (b ≡ true)
both_true true b e = (refl, e)
both_true false b e = absurd cc

pub nat_is : (n m : ℕ) → (n == m) ≡ true → n ≡ m
nat_is n m e = grind (arith, nat_tests)

bytes_turned : (xs ys : List ℕ) → bytes_eq xs ys ≡ bytes_eq ys xs
bytes_turned xs ys = by (bytes_eq xs ys) (bytes_eq ys xs) refl refl
  where
    by : (a b : Bool) → bytes_eq xs ys ≡ a → bytes_eq ys xs ≡ b → a ≡ b
    by true b e f = sym ((bytes_eq-Decides ys xs).1 (sym ((bytes_eq-Decides xs ys).0 e))) ∙ f
    by false true e f = absurd (let no : false ≡ true = sym e ∙ (bytes_eq-Decides xs ys).1 (sym ((bytes_eq-Decides ys xs).0 f)) in cc)
    by false false e f = refl

pub key_same : (a : Key) → same_key a a ≡ true
key_same a = ap (λ (b : Bool). b && bytes_eq a.id a.id) (nat_same a.lane) ∙ (bytes_eq-Decides a.id a.id).1 refl

pub key_turned : (a b : Key) → same_key a b ≡ same_key b a
key_turned a b = ap (λ (x : Bool). x && bytes_eq a.id b.id) (nat_turned a.lane b.lane) ∙ ap (λ (x : Bool). (b.lane == a.lane) && x) (bytes_turned a.id b.id)

-- what is the same as one of two that are the same
pub key_chain : (a b c : Key) → same_key a b ≡ true → same_key a c ≡ same_key b c
key_chain a b c e =
    let h = both_true (a.lane == b.lane) (bytes_eq a.id b.id) e in
    ap (λ (x : Bool). x && bytes_eq a.id c.id) (nat_chain a.lane b.lane c.lane h.0) ∙ ap (λ (xs : List ℕ). (b.lane == c.lane) && bytes_eq xs c.id) ((bytes_eq-Decides a.id b.id).0 h.1)
