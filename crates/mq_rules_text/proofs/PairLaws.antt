-- The pairs of an entry, one by one.
use Rattle.std.proofs.Common.{◌≡◌, List, [], ◌∷◌, ◌++◌, refl, sym, ap}
use Rattle.std.specs.Prelude.{Result, Ok, Err}
use Rattle.std.proofs.lemmas.List.{append_assoc}
use Rattle.mq_rules_text.specs.declared.fault.Flaw.{Flaw}
use Rattle.mq_rules_text.specs.declared.pairs.Pair.{Pair}
use Rattle.mq_rules_text.specs.Pairs.{pair_before}

-- pairs before those that are read
abbrev pub behind_pairs : List Pair → Result (List Pair) Flaw → Result (List Pair) Flaw
behind_pairs front (Ok ps) = Ok (front ++ ps)
behind_pairs front (Err flaw) = Err flaw

pub behind_pairs-more : (front : List Pair) (p : Pair) (rest : Result (List Pair) Flaw) → behind_pairs front (pair_before p rest) ≡ behind_pairs (front ++ p ∷ []) rest
behind_pairs-more front p (Ok ps) = ap (λ (x : List Pair). Ok x) (sym (append_assoc front (p ∷ []) ps))
behind_pairs-more front p (Err flaw) = refl
