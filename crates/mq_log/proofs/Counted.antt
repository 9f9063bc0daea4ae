-- How many calls of a restart count for an armed cut.
use Rattle.std.proofs.Common.{◌≡◌, ℕ, zero, suc, ◌+◌, ◌-◌, ◌<◌, ◌≤◌, List, [], length, ◌∙◌, ap, subst, arith, Bool, false, Err}
use Rattle.std.proofs.lemmas.Bool.Decides.{nat_tests}
use Rattle.mq_log.specs.State.{front_bodies}
use Rattle.mq_log.specs.declared.open.StartFault.{StartFault}
use Rattle.mq_log.specs.declared.open.StartFault.TheVariants.{Disk, Cut, BadLog, NoMemory}
use Rattle.mq_log.specs.Open.{start_calls, Made, Refused, RestartEnds}
use Rattle.mq_log.proofs.Framed.{bodies_of-closed}

-- one on a disk of two bytes or more
pub one_call : (size : ℕ) → 1 < size → start_calls size ≡ 1
one_call size some = grind (arith, nat_tests)

-- where it is refused
pub refused_by_one : (T : Type 0) (size armed left : ℕ) (stopped after : Bool) (fault : StartFault) → 1 < size → stopped ≡ false
    → Refused (start_calls size) 1 armed stopped fault left after → RestartEnds {T = T} 1 armed (Err fault) left
refused_by_one T size armed left stopped after Cut some passes (_, cut, _) = subst (λ (n : ℕ). (0 < armed) × (armed ≤ n) × (left ≡ 0)) (one_call size some) (cut passes)
refused_by_one T size armed left stopped after Disk some passes (_, _, fewer, still, most) = (fewer, still, subst (λ (n : ℕ). armed ≤ left + n) (one_call size some) most)
refused_by_one T size armed left stopped after (BadLog place) some passes (_, _, left_is, past) = (left_is, past)
refused_by_one T size armed left stopped after NoMemory some passes (_, _, left_is, past) = (left_is, past)

-- where it comes
pub made_by_one : (size armed left : ℕ) (stopped after : Bool) → 1 < size → Made (start_calls size) armed stopped left after → (left ≡ armed - 1) × (0 < armed → 1 < armed)
made_by_one size armed left stopped after some (_, _, left_is, past) = subst (λ (n : ℕ). (left ≡ armed - n) × (0 < armed → n < armed)) (one_call size some) (left_is, past)

none : (len end : ℕ) (bytes : List ℕ) → len ≡ 1 → end ≡ len - 1 → 0 < length (front_bodies end bytes) → ⊥
none len end bytes one at some =
    let zero_is : end ≡ 0 = omega (arith, one, at) in
    let empty : front_bodies end bytes ≡ [] = ap (λ (n : ℕ). front_bodies n bytes) zero_is ∙ bodies_of-closed [] 0 [] tt (omega arith) in
    absurd (omega (arith, ap length empty, some))

-- bodies are read of a disk of two bytes or more
pub some_read : (size len end : ℕ) (bytes : List ℕ) → (size < 2 → len ≡ 1) → end ≡ len - 1 → 0 < length (front_bodies end bytes) → 1 < size
some_read (suc (suc n)) len end bytes few at some = omega arith
some_read zero len end bytes few at some = absurd (none len end bytes (few (omega arith)) at some)
some_read (suc zero) len end bytes few at some = absurd (none len end bytes (few (omega arith)) at some)
