-- Room that is kept is enough, where less is needed.
use Rattle.std.proofs.Common.{◌≤◌, Bool, true, false, cond, List, [], ◌∷◌, length, arith}
use Rattle.std.specs.Prelude.{Option, Some, None, filter, not}
use Rattle.mq_unit.specs.from_message.{Ident}
use Rattle.mq_unit.specs.from_calls.Words.{InDoubt, same_ident, less_ident}
use Rattle.mq_sides.specs.Kept.{told_need}

fewer : {A : Type 0} (p : A → Bool) (xs : List A) → length (filter p xs) ≤ length xs
fewer p [] = omega arith
fewer {A} p (x ∷ xs) = by (p x) (fewer p xs)
  where
    by : (b : Bool) → length (filter p xs) ≤ length xs → length (cond b (x ∷ filter p xs) (filter p xs)) ≤ length (x ∷ xs)
    by true less = omega (arith, less)
    by false less = omega (arith, less)

pub less_need : (i : Ident) (o : Option InDoubt) → told_need (less_ident i o) ≤ told_need o
less_need i None = omega arith
less_need i (Some d) = let less = fewer (λ (other : Ident). not (same_ident i other)) d.idents in omega (arith, less)
