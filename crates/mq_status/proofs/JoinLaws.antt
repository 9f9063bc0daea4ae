-- One piece behind another.
use Rattle.std.proofs.Common.{◌≡◌, ℕ, List, ◌++◌, ap, ◌∙◌}
use Rattle.std.proofs.lemmas.List.{append_assoc}
use Rattle.std.specs.Prelude.{Result, Ok, Err, OnOk}

pub joined : {T E : Type 0} (r : Result T E) (old mid new a b : List ℕ) → mid ≡ old ++ a → OnOk r (new ≡ mid ++ b) → OnOk r (new ≡ old ++ (a ++ b))
joined (Ok x) old mid new a b e h = h ∙ ap (λ (l : List ℕ). l ++ b) e ∙ append_assoc old a b
joined (Err x) old mid new a b e h = tt
