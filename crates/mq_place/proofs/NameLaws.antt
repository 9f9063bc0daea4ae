-- Names that count as the same are one.
use Rattle.std.proofs.Common.{◌≡◌, ℕ, Bool, true, false, List, refl, sym, ap}
use Rattle.std.specs.Str.{bytes_eq}
use Rattle.std.proofs.lemmas.Slice.Eq.{bytes_eq-Decides}

pub name_is : (a b : List ℕ) → bytes_eq a b ≡ true → a ≡ b
name_is a b e = (bytes_eq-Decides a b).0 e

pub name_self : (a : List ℕ) → bytes_eq a a ≡ true
name_self a = (bytes_eq-Decides a a).1 refl

pub name_swap : (a b : List ℕ) → bytes_eq a b ≡ bytes_eq b a
name_swap a b = by (bytes_eq a b) refl (bytes_eq b a) refl
  where
    by : (s : Bool) → bytes_eq a b ≡ s → (t : Bool) → bytes_eq b a ≡ t → s ≡ t
    by true p true q = refl
    by false p false q = refl
    by true p false q = let same = name_is a b p in absurd (cc (ap (λ (x : List ℕ). bytes_eq b x) same, q, name_self b))
    by false p true q = let same = name_is b a q in absurd (cc (ap (λ (x : List ℕ). bytes_eq a x) (sym same), p, name_self a))
