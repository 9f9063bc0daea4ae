-- What framed bodies stand for.
use Rattle.std.proofs.Common.{◌≡◌, ◌≢◌, ℕ, zero, suc, ◌+◌, ◌-◌, ◌^◌, ◌<◌, ◌≤◌, List, [], ◌∷◌, ◌++◌, length, take, drop, refl, sym, ◌∙◌, ap, arith, append_assoc, length-append}
use Rattle.std.proofs.lemmas.List.{take_at, drop_at, append-nil, drop-drop}
use Rattle.std.proofs.lemmas.Nat.{from_be_bytes-to_be_bytes_4}
use Rattle.std.proofs.lemmas.Bool.Decides.{nat_tests}
use Rattle.mq_log.specs.Bodies.{number_bytes, number_of, frame, frames, bodies_within, bodies_of, Fits, AllFit}

pub length-number_bytes : (n : ℕ) → length (number_bytes n) ≡ 4
unfolding number_bytes
length-number_bytes n = refl

pub number_of-number_bytes : (n : ℕ) → n < 2 ^ 32 → number_of (number_bytes n) ≡ n
unfolding number_bytes number_of
number_of-number_bytes n fits = from_be_bytes-to_be_bytes_4 n fits

pub closed : (k gate : ℕ) (rest : List ℕ) → gate ≢ 165 → bodies_within k (gate ∷ rest) ≡ []
unfolding bodies_within
closed zero gate rest shut = refl
closed (suc k) gate rest shut = grind (arith, nat_tests)

-- one step of the reader, behind an open gate
opened : (k n : ℕ) (rest : List ℕ) → number_of (take 4 rest) ≡ n → 4 + n < length rest → bodies_within (suc k) (165 ∷ rest) ≡ take n (drop 4 rest) ∷ bodies_within k (drop (4 + n) rest)
unfolding bodies_within
opened k n rest is some = grind (arith, nat_tests)

pub one : (k : ℕ) (body rest : List ℕ) → Fits body → 0 < length rest → bodies_within (suc k) (frame body ++ rest) ≡ body ∷ bodies_within k rest
one k body rest fits some =
    let n = length body in
    let head = number_bytes n in
    let split : (head ++ body) ++ rest ≡ head ++ (body ++ rest) = append_assoc head body rest in
    let first : take 4 (head ++ (body ++ rest)) ≡ head = take_at head (body ++ rest) 4 (length-number_bytes n) in
    let after : drop 4 (head ++ (body ++ rest)) ≡ body ++ rest = drop_at head (body ++ rest) 4 (length-number_bytes n) in
    let behind : drop (4 + n) (head ++ (body ++ rest)) ≡ rest =
    sym (drop-drop n 4 (head ++ (body ++ rest))) ∙ ap (λ (l : List ℕ). drop n l) after ∙ drop_at body rest n refl in
    ap (λ (l : List ℕ). bodies_within (suc k) (165 ∷ l)) split
    ∙ opened k n (head ++ (body ++ rest)) (ap number_of first ∙ number_of-number_bytes n fits) (omega (arith, length-append head (body ++ rest), length-append body rest, length-number_bytes n))
    ∙ ap (λ (l : List ℕ). take n l ∷ bodies_within k (drop (4 + n) (head ++ (body ++ rest)))) after
    ∙ ap (λ (l : List ℕ). l ∷ bodies_within k (drop (4 + n) (head ++ (body ++ rest)))) (take_at body rest n refl)
    ∙ ap (λ (l : List ℕ). body ∷ bodies_within k l) behind

pub length-frames : (bodies : List (List ℕ)) → length bodies ≤ length (frames bodies)
length-frames [] = omega arith
length-frames (body ∷ bodies) = omega (arith, length-frames bodies, length-append (frame body) (frames bodies))

pub within : (k : ℕ) (bodies : List (List ℕ)) (rest : List ℕ) → length bodies ≤ k → AllFit bodies → 0 < length rest → bodies_within k (frames bodies ++ rest) ≡ bodies ++ bodies_within (k - length bodies) rest
within k [] rest few fits some = ap (λ (m : ℕ). bodies_within m rest) (omega arith)
within zero (body ∷ bodies) rest few fits some = absurd (omega arith)
within (suc k) (body ∷ bodies) rest few fits some =
    let fuel : k - length bodies ≡ suc k - suc (length bodies) = omega arith in
    ap (λ (l : List ℕ). bodies_within (suc k) l) (append_assoc (frame body) (frames bodies) rest)
    ∙ one k body (frames bodies ++ rest) fits.0 (omega (arith, length-append (frames bodies) rest))
    ∙ ap (λ (l : List (List ℕ)). body ∷ l) (within k bodies rest (omega arith) fits.1 some)
    ∙ ap (λ (m : ℕ). body ∷ (bodies ++ bodies_within m rest)) fuel

-- a gate that isn't open ends them, whatever stands behind it
pub bodies_of-closed : (bodies : List (List ℕ)) (gate : ℕ) (rest : List ℕ) → AllFit bodies → gate ≢ 165 → bodies_of (frames bodies ++ gate ∷ rest) ≡ bodies
unfolding bodies_of
bodies_of-closed bodies gate rest fits shut =
    let total = length (frames bodies ++ gate ∷ rest) in
    within total bodies (gate ∷ rest) (omega (arith, length-frames bodies, length-append (frames bodies) (gate ∷ rest))) fits (omega arith)
    ∙ ap (λ (l : List (List ℕ)). bodies ++ l) (closed (total - length bodies) gate rest shut)
    ∙ append-nil bodies

pub frames-push : (bodies : List (List ℕ)) (body : List ℕ) → frames (bodies ++ body ∷ []) ≡ frames bodies ++ frame body
frames-push [] body = append-nil (frame body)
frames-push (b ∷ bodies) body = ap (λ (l : List ℕ). frame b ++ l) (frames-push bodies body) ∙ sym (append_assoc (frame b) (frames bodies) (frame body))

pub fits-push : (bodies : List (List ℕ)) (body : List ℕ) → AllFit bodies → Fits body → AllFit (bodies ++ body ∷ [])
fits-push [] body all fit = (fit, tt)
fits-push (b ∷ bodies) body all fit = (all.0, fits-push bodies body all.1 fit)

-- the piece that is written for a body
unfoldable pub piece : List ℕ → List ℕ
piece body = (number_bytes (length body) ++ body) ++ 0 ∷ []
