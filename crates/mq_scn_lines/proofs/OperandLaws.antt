-- The last byte of a text.
use Rattle.std.proofs.Common.{◌≡◌, ℕ, Bool, true, false, cond, eqb, List, [], ◌∷◌, ◌++◌, refl, sym, ap, ◌∙◌}
use Rattle.std.specs.Prelude.{Option, Some, None}
use Rattle.mq_scn_lines.specs.Operands.{before_last, onto_text}

onto_cond : (x : ℕ) (t : Bool) (front : List ℕ) → onto_text x (cond t (Some front) None) ≡ cond t (Some (x ∷ front)) None
onto_cond x true front = refl
onto_cond x false front = refl

-- what stands before the last byte, where that is the one asked
pub last_is : (c b : ℕ) (front : List ℕ) → before_last c (front ++ b ∷ []) ≡ cond (eqb b c) (Some front) None
last_is c b [] = refl
last_is c b (x ∷ []) = onto_cond x (eqb b c) []
last_is c b (x ∷ y ∷ front) = ap (onto_text x) (last_is c b (y ∷ front)) ∙ onto_cond x (eqb b c) (y ∷ front)
