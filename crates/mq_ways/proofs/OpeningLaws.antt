-- A cable for each line, one after the other.
use Rattle.std.proofs.Common.{◌≡◌, ℕ, zero, suc, ◌+◌, ◌≤◌, List, [], ◌∷◌, ◌++◌, length, drop, sym, ap, subst, ◌∙◌, arith, append_assoc, append-nil}
use Rattle.std.specs.Prelude.{Some, slice_get}
use Rattle.std.proofs.lemmas.List.{drop_all}
use Rattle.mq_history.specs.declared.scenario.CableLine.{CableLine}
use Rattle.mq_ways.specs.Ways.{AreNew, CableState, IsNew}

drop_here : {A : Type 0} (xs : List A) (i : ℕ) (x : A) → slice_get xs i ≡ Some x → drop i xs ≡ x ∷ drop (i + 1) xs
drop_here [] zero x e = absurd cc
drop_here [] (suc i) x e = absurd cc
drop_here (a ∷ as_) zero x e = ap (λ (y : _). y ∷ as_) (value a x e)
  where
    value : {A : Type 0} (b y : A) → Some b ≡ Some y → b ≡ y
    value b y k = cc
drop_here (a ∷ as_) (suc i) x e = drop_here as_ i x e ∙ ap (λ (n : ℕ). x ∷ drop n (a ∷ as_)) (one_up i)
  where
    one_up : (n : ℕ) → suc (n + 1) ≡ suc n + 1
    one_up n = omega arith

pub new_more : (ls : List CableLine) (cs ds : List CableState) (i : ℕ) (l : CableLine) (c : CableState) → ds ≡ cs ++ c ∷ [] → slice_get ls i ≡ Some l → IsNew l.out c.out → IsNew l.back c.back
    → ((rest : List CableState) → AreNew (drop i ls) rest → AreNew ls (cs ++ rest)) → (rest : List CableState) → AreNew (drop (i + 1) ls) rest → AreNew ls (ds ++ rest)
new_more ls cs ds i l c more here out back so_far rest h =
    subst (λ (xs : List CableState). AreNew ls xs) (sym (ap (λ (ys : List CableState). ys ++ rest) more ∙ append_assoc cs (c ∷ []) rest))
    (so_far (c ∷ rest) (subst (λ (xs : List CableLine). AreNew xs (c ∷ rest)) (sym (drop_here ls i l here)) (out, back, h)))

pub new_all : (ls : List CableLine) (cs : List CableState) (n : ℕ) → length ls ≤ n → ((rest : List CableState) → AreNew (drop n ls) rest → AreNew ls (cs ++ rest)) → AreNew ls cs
new_all ls cs n le so_far =
    subst (λ (xs : List CableState). AreNew ls xs) (append-nil cs) (so_far [] (subst (λ (xs : List CableLine). AreNew xs []) (sym (drop_all n ls le)) tt))
