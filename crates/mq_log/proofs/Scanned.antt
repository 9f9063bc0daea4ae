-- One body more is read.
use Rattle.std.proofs.Common.{◌≡◌, ℕ, zero, suc, ◌+◌, ◌-◌, ◌^◌, ◌<◌, ◌≤◌, List, [], ◌∷◌, ◌++◌, length, get_or, take, drop, refl, sym, ◌∙◌, ap, subst, arith}
use Rattle.std.proofs.lemmas.List.{drop_more, length-take-le, length-drop}
use Rattle.std.proofs.Math.Seq.{take-add}
use Rattle.std.specs.Prelude.{slice_index}
use Rattle.std.specs.Int.{from_be_bytes, w32}
use Rattle.std.proofs.lemmas.Nat.{be_bytes_4}
use Rattle.mq_log.specs.Bodies.{number_bytes, number_of, frame, frames, bodies_of, AllFit}
use Rattle.mq_log.specs.State.{front_bodies}
use Rattle.mq_log.specs.Open.{Front}
use Rattle.mq_log.proofs.Framed.{bodies_of-closed, frames-push, fits-push}

pub front_of : (bodies : List (List ℕ)) (at : ℕ) (bytes : List ℕ) → AllFit bodies → take at bytes ≡ frames bodies → front_bodies at bytes ≡ bodies
front_of bodies at bytes fits is = ap (λ (l : List ℕ). bodies_of (l ++ 0 ∷ [])) is ∙ bodies_of-closed bodies 0 [] fits (omega arith)

pub framed_by : (bodies : List (List ℕ)) (at : ℕ) (bytes : List ℕ) → AllFit bodies → take at bytes ≡ frames bodies → Front at bytes
framed_by bodies at bytes fits is =
    let front = front_of bodies at bytes fits is in
    record { framed = ap frames front ∙ sym is; fits = subst AllFit (sym front) fits }

-- the same in front of the place
pub front_kept : (at : ℕ) (bytes more : List ℕ) → take at more ≡ take at bytes → Front at bytes → Front at more
front_kept at bytes more same front = framed_by (front_bodies at bytes) at more front.fits (same ∙ sym front.framed)

-- the body of n bytes behind the open gate at this place
pub one_more : (at n : ℕ) (bytes : List ℕ) → at < length bytes → Front at bytes → slice_index bytes at ≡ 165 → number_bytes n ≡ take 4 (drop (at + 1) bytes) → n < 2 ^ 32 → at + 5 + n < length bytes → Front (at + (5 + n)) bytes
one_more at n bytes inside so_far is_open size small fit =
    let bodies = front_bodies at bytes in
    let rest = drop (at + 1) bytes in
    let body = take n (drop 4 rest) in
    let size_rest : length (drop 4 rest) ≡ length bytes - (at + 1) - 4 = omega (arith, length-drop 4 rest, length-drop (at + 1) bytes) in
    let long : length body ≡ n = length-take-le n (drop 4 rest) (omega (arith, size_rest, fit)) in
    let gate : drop at bytes ≡ 165 ∷ rest = drop_more bytes at 0 inside ∙ ap (λ (g : ℕ). g ∷ rest) is_open in
    let piece : take (4 + n) rest ≡ number_bytes (length body) ++ body =
    take-add 4 n rest ∙ ap (λ (l : List ℕ). l ++ body) (sym size) ∙ ap (λ (m : ℕ). number_bytes m ++ body) (sym long) in
    let framed : take (5 + n) (drop at bytes) ≡ frame body = ap (λ (l : List ℕ). take (5 + n) l) gate ∙ five n rest ∙ ap (λ (l : List ℕ). 165 ∷ l) piece in
    let whole : take (at + (5 + n)) bytes ≡ frames (bodies ++ body ∷ []) =
    take-add at (5 + n) bytes ∙ ap (λ (l : List ℕ). take at bytes ++ l) framed ∙ ap (λ (l : List ℕ). l ++ frame body) (sym so_far.framed) ∙ sym (frames-push bodies body) in
    framed_by (bodies ++ body ∷ []) (at + (5 + n)) bytes (fits-push bodies body so_far.fits (subst (λ (m : ℕ). m < 2 ^ 32) (sym long) small)) whole
  where
    five : (n : ℕ) (rest : List ℕ) → take (5 + n) (165 ∷ rest) ≡ 165 ∷ take (4 + n) rest
    five n rest = let e : 5 + n ≡ suc (4 + n) = omega arith in ap (λ (m : ℕ). take m (165 ∷ rest)) e

step : (bytes : List ℕ) (i j : ℕ) → j ≡ i + 1 → i < length bytes → drop i bytes ≡ get_or bytes i 0 ∷ drop j bytes
step bytes i j next inside = drop_more bytes i 0 inside ∙ ap (λ (n : ℕ). get_or bytes i 0 ∷ drop n bytes) (sym next)

pub four : (bytes : List ℕ) (at : ℕ) → at + 5 ≤ length bytes → take 4 (drop (at + 1) bytes) ≡ get_or bytes (at + 1) 0 ∷ get_or bytes (at + 2) 0 ∷ get_or bytes (at + 3) 0 ∷ get_or bytes (at + 4) 0 ∷ []
four bytes at inside =
    ap (λ (l : List ℕ). take 4 l) (step bytes (at + 1) (at + 2) (omega arith) (omega arith))
    ∙ ap (λ (l : List ℕ). get_or bytes (at + 1) 0 ∷ take 3 l) (step bytes (at + 2) (at + 3) (omega arith) (omega arith))
    ∙ ap (λ (l : List ℕ). get_or bytes (at + 1) 0 ∷ get_or bytes (at + 2) 0 ∷ take 2 l) (step bytes (at + 3) (at + 4) (omega arith) (omega arith))
    ∙ ap (λ (l : List ℕ). get_or bytes (at + 1) 0 ∷ get_or bytes (at + 2) 0 ∷ get_or bytes (at + 3) 0 ∷ take 1 l) (step bytes (at + 4) (at + 5) (omega arith) (omega arith))

all_bytes : (a b c d : ℕ) → a < 256 → b < 256 → c < 256 → d < 256 → (i : ℕ) → get_or (a ∷ b ∷ c ∷ d ∷ []) i 0 < 256
all_bytes a b c d pa pb pc pd zero = pa
all_bytes a b c d pa pb pc pd (suc zero) = pb
all_bytes a b c d pa pb pc pd (suc (suc zero)) = pc
all_bytes a b c d pa pb pc pd (suc (suc (suc zero))) = pd
all_bytes a b c d pa pb pc pd (suc (suc (suc (suc i)))) = omega arith

pub number_read : (bytes : List ℕ) (at n : ℕ) → at + 5 ≤ length bytes → ((i : ℕ) → get_or bytes i 0 < 256)
    → n ≡ from_be_bytes w32 (get_or bytes (at + 1) 0 ∷ get_or bytes (at + 2) 0 ∷ get_or bytes (at + 3) 0 ∷ get_or bytes (at + 4) 0 ∷ [])
    → (number_bytes n ≡ take 4 (drop (at + 1) bytes)) × (number_of (take 4 (drop (at + 1) bytes)) ≡ n)
unfolding number_bytes number_of
number_read bytes at n inside bound is = (
  be_bytes_4 (get_or bytes (at + 1) 0 ∷ get_or bytes (at + 2) 0 ∷ get_or bytes (at + 3) 0 ∷ get_or bytes (at + 4) 0 ∷ []) n refl
      (all_bytes (get_or bytes (at + 1) 0) (get_or bytes (at + 2) 0) (get_or bytes (at + 3) 0) (get_or bytes (at + 4) 0) (bound (at + 1)) (bound (at + 2)) (bound (at + 3)) (bound (at + 4))) is
      ∙ sym (four bytes at inside),
  ap (λ (l : List ℕ). from_be_bytes w32 l) (four bytes at inside) ∙ sym is,
)
