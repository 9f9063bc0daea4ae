-- Reading values one after the other, as a loop does.
use Rattle.std.proofs.Common.{◌≡◌, ℕ, suc, ◌-◌, ◌+◌, ◌≤◌, ◌<◌, List, [], ◌∷◌, ◌++◌, Result, Ok, Err, refl, sym, ap, ◌∙◌, append_assoc, arith}
use Rattle.std.proofs.lemmas.List.{append-nil}
use Rattle.mq_frame.specs.declared.fault.Miss.{Miss}
use Rattle.mq_frame.specs.declared.fault.Stop.{Stop}
use Rattle.mq_frame.specs.declared.fault.Stop.TheVariants as stops
use Rattle.mq_frame.specs.Reading.{◌>>=◌, Stops}
use Rattle.mq_record.specs.Reading.{several_at}

-- what was read before, and what is still read
abbrev pub with_front : {A : Type 0} → List A → Result (List A × List ℕ) Miss → Result (List A × List ℕ) Miss
with_front front read = read >>= λ x. Ok (front ++ x.0, x.1)

regroup : {A : Type 0} (front : List A) (a : A) (read : Result (List A × List ℕ) Miss) → with_front front (read >>= λ x. Ok (a ∷ x.0, x.1)) ≡ with_front (front ++ a ∷ []) read
regroup {A = A} front a (Ok x) = ap (λ (z : List A). Ok (z, x.1)) (simp append_assoc)
regroup front a (Err e) = refl

pub goes_on : {A : Type 0} (one : List ℕ → Result (A × List ℕ) Miss) (front : List A) (count i : ℕ) (bytes : List ℕ) (a : A) (after : List ℕ) (total : Result (List A × List ℕ) Miss) → i < count → one bytes ≡ Ok (a, after)
    → with_front front (several_at one (count - i) bytes) ≡ total → with_front (front ++ a ∷ []) (several_at one (count - (i + 1)) after) ≡ total
unfolding several_at
goes_on one front count i bytes a after total lt h so_far =
    let k : count - i ≡ suc (count - (i + 1)) = omega arith in
    let step : with_front front (several_at one (count - i) bytes) ≡ with_front (front ++ a ∷ []) (several_at one (count - (i + 1)) after) = rw (k, h) (regroup front a (several_at one (count - (i + 1)) after)) in
    sym step ∙ so_far

pub ends : {A : Type 0} (one : List ℕ → Result (A × List ℕ) Miss) (e : Stop) (front : List A) (count i : ℕ) (bytes : List ℕ) (total : Result (List A × List ℕ) Miss) → i < count → Stops e (one bytes)
    → with_front front (several_at one (count - i) bytes) ≡ total → Stops e total
unfolding several_at
ends one stops.NoMemory front count i bytes total lt h so_far = tt
ends one (stops.Miss e) front count i bytes total lt h so_far =
    let k : count - i ≡ suc (count - (i + 1)) = omega arith in
    let step : with_front front (several_at one (count - i) bytes) ≡ Err e = rw (k, h) refl in
    sym so_far ∙ step

pub is_done : {A : Type 0} (one : List ℕ → Result (A × List ℕ) Miss) (front : List A) (count i : ℕ) (bytes : List ℕ) (total : Result (List A × List ℕ) Miss) → count ≤ i → with_front front (several_at one (count - i) bytes) ≡ total → total ≡ Ok (front, bytes)
unfolding several_at
is_done {A = A} one front count i bytes total le so_far =
    let k : count - i ≡ 0 = omega arith in
    let step : with_front front (several_at one (count - i) bytes) ≡ Ok (front, bytes) = rw k (ap (λ (z : List A). Ok (z, bytes)) (append-nil front)) in
    sym so_far ∙ step
