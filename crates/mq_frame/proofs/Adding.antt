-- Pieces that are added at the end, one after the other.
use Rattle.std.proofs.Common.{◌≡◌, ℕ, List, [], ◌∷◌, ◌++◌, sym, ap, ◌∙◌, append_assoc}
use Rattle.std.specs.List.{concat}
use Rattle.std.proofs.lemmas.List.{append-nil}

concat_push : (xs : List (List ℕ)) (y : List ℕ) → concat xs ++ y ≡ concat (xs ++ y ∷ [])
concat_push [] y = sym (append-nil y)
concat_push (x ∷ xs) y = append_assoc x (concat xs) y ∙ ap (λ (z : List ℕ). x ++ z) (concat_push xs y)

-- the first piece
pub adds_one : (a b y : List ℕ) → b ≡ a ++ y → b ≡ a ++ concat (y ∷ [])
adds_one a b y e = e ∙ ap (λ (z : List ℕ). a ++ z) (sym (append-nil y))

-- one more piece
pub adds_more : (a b c : List ℕ) (xs : List (List ℕ)) (y : List ℕ) → b ≡ a ++ concat xs → c ≡ b ++ y → c ≡ a ++ concat (xs ++ y ∷ [])
adds_more a b c xs y e p = p ∙ ap (λ (z : List ℕ). z ++ y) e ∙ append_assoc a (concat xs) y ∙ ap (λ (z : List ℕ). a ++ z) (concat_push xs y)
