-- What is written field by field, and what is read back.
use Rattle.std.proofs.Common.{◌≡◌, List, ℕ, ℤ, ◌++◌, ap, ◌∙◌, ◌^◌, ◌<◌, [], ◌∷◌, arith, w32, to_z, of_z, FitsSigned}
use Rattle.std.proofs.lemmas.List.{append_assoc}
use Rattle.std.proofs.lemmas.Int.{to_z-of_z}
use Rattle.mq_message.specs.Layout.{long_bytes, unsigned_bytes}

-- a piece that was written behind another text stands before what comes behind it
pub behind : (whole front piece rest : List ℕ) → whole ≡ front ++ piece → whole ++ rest ≡ front ++ (piece ++ rest)
behind whole front piece rest e = ap (λ (x : List ℕ). x ++ rest) e ∙ append_assoc front piece rest

-- the same for a signed number, which a call sees through its bits
pub behind_long : (whole front : List ℕ) (z : ℤ) (rest : List ℕ) → FitsSigned w32 z → whole ≡ front ++ long_bytes (to_z w32 (of_z w32 z)) → whole ++ rest ≡ front ++ (long_bytes z ++ rest)
behind_long whole front z rest fits e = behind whole front (long_bytes z) rest (e ∙ ap (λ (x : ℤ). front ++ long_bytes x) (to_z-of_z w32 z fits))

-- a signed number that a call read, which its caller sees through its bits
pub read_long : (z w : ℤ) → FitsSigned w32 z → z ≡ w → to_z w32 (of_z w32 z) ≡ w
read_long z w fits e = to_z-of_z w32 z fits ∙ e

-- a number of one byte is that byte
pub one_byte : (n : ℕ) → n < 2 ^ 8 → n ∷ [] ≡ unsigned_bytes 1 n
unfolding unsigned_bytes
one_byte n small = ap (λ (x : ℕ). x ∷ []) (omega arith)
