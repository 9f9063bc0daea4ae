-- Pieces that are put one behind the other.
use Rattle.std.proofs.Common.{◌≡◌, ℕ, ◌-◌, List, [], ◌∷◌, ◌++◌, length, sym, ap, ◌∙◌, append_assoc, arith}
use Rattle.std.specs.List.{concat}
use Rattle.std.proofs.lemmas.List.{append-nil, length-append}
use Rattle.mq_record.specs.Room.{Buffered, with_piece}

pub with_two : (x y : List ℕ) (b : Buffered) → with_piece y (with_piece x b) ≡ with_piece (x ++ y) b
with_two x y b =
    let bytes : (b.bytes ++ x) ++ y ≡ b.bytes ++ (x ++ y) = append_assoc b.bytes x y in
    let room : b.room - length x - length y ≡ b.room - length (x ++ y) = omega (arith, length-append x y) in
    λ i. record { bytes = bytes i; room = room i }

concat_push : (xs : List (List ℕ)) (y : List ℕ) → concat xs ++ y ≡ concat (xs ++ y ∷ [])
concat_push [] y = sym (append-nil y)
concat_push (x ∷ xs) y = append_assoc x (concat xs) y ∙ ap (λ (z : List ℕ). x ++ z) (concat_push xs y)

-- the first piece
pub piece_one : (b c : Buffered) (y : List ℕ) → c ≡ with_piece y b → c ≡ with_piece (concat (y ∷ [])) b
piece_one b c y e = e ∙ ap (λ (z : List ℕ). with_piece z b) (sym (append-nil y))

-- one more piece
pub piece_more : (b c d : Buffered) (xs : List (List ℕ)) (y : List ℕ) → c ≡ with_piece (concat xs) b → d ≡ with_piece y c → d ≡ with_piece (concat (xs ++ y ∷ [])) b
piece_more b c d xs y e p =
    p ∙ ap (with_piece y) e ∙ with_two (concat xs) y b ∙ ap (λ (z : List ℕ). with_piece z b) (concat_push xs y)

-- what is left behind a piece
pub room_left : (b c : Buffered) (y : List ℕ) (n : ℕ) → c ≡ with_piece y b → length y ≡ n → c.room ≡ b.room - n
room_left b c y n e l = ap (λ (z : Buffered). z.room) e ∙ ap (λ (k : ℕ). b.room - k) l
