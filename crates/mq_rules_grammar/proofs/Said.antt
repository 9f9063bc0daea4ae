-- A keyword that comes once has one value, and says one thing.
use Rattle.std.proofs.Common.{◌≡◌, ℕ, List, [], ◌∷◌, Result, Ok, refl, sym, ap, ◌∙◌, inl, inr}
use Rattle.std.specs.Prelude.{Option, Some}
use Rattle.mq_rules_text.specs.declared.fault.Flaw.{Flaw}
use Rattle.mq_rules_text.specs.declared.keyword.Keyword.{Keyword}
use Rattle.mq_rules_text.specs.declared.pairs.Pair.{Pair}
use Rattle.mq_rules_grammar.specs.Entries.{AreSingle, Has, IsSaid}

pub value_of_pair : (p : Pair) (k : Keyword) → p.keyword ≡ Some k → record { keyword = Some k; value = p.value } ≡ p
value_of_pair p k e = ap (λ (o : Option Keyword). record { keyword = o; value = p.value }) (sym e)

abbrev pair_with : Keyword → List ℕ → Pair
pair_with k v = record { keyword = Some k; value = v }

pub one_given : (k : Keyword) (v w : List ℕ) (ps : List Pair) → AreSingle ps → Has k v ps → Has k w ps → v ≡ w
one_given k v w [] s h g = absurd h
one_given k v w (p ∷ ps) s (inl e) (inl f) = let same : pair_with k v ≡ pair_with k w = e ∙ sym f in ap (λ (q : Pair). q.value) same
one_given k v w (p ∷ ps) s (inl e) (inr m) = absurd (s.0 k (pair_with k w) (sym (ap (λ (q : Pair). q.keyword) e)) m refl)
one_given k v w (p ∷ ps) s (inr m) (inl f) = absurd (s.0 k (pair_with k v) (sym (ap (λ (q : Pair). q.keyword) f)) m refl)
one_given k v w (p ∷ ps) s (inr m) (inr n) = one_given k v w ps s.1 m n

abbrev ok_of : {X : Type 0} → X → Result X Flaw
ok_of x = Ok x

ok_same : {X : Type 0} (x y : X) → ok_of x ≡ ok_of y → x ≡ y
ok_same x y e = cc

pub one_answer : {X : Type 0} (r : Result X Flaw) (x y : X) → r ≡ Ok x → r ≡ Ok y → x ≡ y
one_answer r x y e f = ok_same x y (sym e ∙ f)

pub one_said : {X : Type 0} (k : Keyword) (means : List ℕ → Result X Flaw) (default x y : X) (ps : List Pair) → AreSingle ps → IsSaid k means default ps x → IsSaid k means default ps y → x ≡ y
one_said k means default x y ps s (inl (v, h, e)) (inl (w, g, f)) = one_answer (means w) x y (sym (ap means (one_given k v w ps s h g)) ∙ e) f
one_said k means default x y ps s (inl (v, h, e)) (inr (lacks, f)) = absurd (lacks v h)
one_said k means default x y ps s (inr (lacks, e)) (inl (w, g, f)) = absurd (lacks w g)
one_said k means default x y ps s (inr (lacks, e)) (inr (never, f)) = e ∙ sym f
