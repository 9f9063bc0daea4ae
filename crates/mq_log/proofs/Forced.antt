-- What two writes behind each other leave, each with its sync.
use Rattle.std.proofs.Common.{◌≡◌, ℕ, ◌+◌, ◌≤◌, List, [], ◌∷◌, ◌++◌, length, take, drop, sym, ◌∙◌, ap, arith, append_assoc, length-append}
use Rattle.std.proofs.lemmas.List.{take_at, drop_at, take-take, take-append-le, length-take-le}
use Rattle.mq_disk.specs.Disk.{overwritten}

module _ (p : ℕ) (piece s s1 : List ℕ) (inside : p + 1 ≤ length s) (holds : s1 ≡ overwritten s (p + 1) piece) where
  whole : s1 ≡ take (p + 1) s ++ (piece ++ drop (p + 1 + length piece) s)
  whole = holds ∙ append_assoc (take (p + 1) s) piece (drop (p + 1 + length piece) s)

  front : take p s1 ≡ take p s
  front =
      ap (λ (l : List ℕ). take p l) whole
      ∙ take-append-le p (take (p + 1) s) (piece ++ drop (p + 1 + length piece) s) (omega (arith, length-take-le (p + 1) s inside))
      ∙ take-take p (p + 1) s (omega arith)

  back : drop (p + 1) s1 ≡ piece ++ drop (p + 1 + length piece) s
  back = ap (λ (l : List ℕ). drop (p + 1) l) whole ∙ drop_at (take (p + 1) s) (piece ++ drop (p + 1 + length piece) s) (p + 1) (length-take-le (p + 1) s inside)

  pub done : (s2 : List ℕ) → s2 ≡ overwritten s1 p (165 ∷ []) → take (p + 1 + length piece) s2 ≡ take p s ++ 165 ∷ piece
  done s2 gate =
      let rest = drop (p + 1 + length piece) s in
      let gated : s2 ≡ (take p s ++ 165 ∷ piece) ++ rest =
      gate
      ∙ ap (λ (l : List ℕ). (l ++ 165 ∷ []) ++ drop (p + 1) s1) front
      ∙ ap (λ (l : List ℕ). (take p s ++ 165 ∷ []) ++ l) back
      ∙ append_assoc (take p s) (165 ∷ []) (piece ++ rest)
      ∙ sym (append_assoc (take p s) (165 ∷ piece) rest) in
      ap (λ (l : List ℕ). take (p + 1 + length piece) l) gated
      ∙ take_at (take p s ++ 165 ∷ piece) rest (p + 1 + length piece) (omega (arith, length-append (take p s) (165 ∷ piece), length-take-le p s (omega (arith, inside))))
