-- How many lines and steps such a scenario has.
use Rattle.std.proofs.Common.{ℕ, zero, suc, ◌≡◌, ◌≢◌, ◌≤◌, ◌+◌, ◌*◌, [], ◌∷◌, refl, arith, length}
use Rattle.std.proofs.lemmas.List.{length-append}
use Rattle.std.proofs.lemmas.Bool.{eqb-true, eqb-false}
use Rattle.std.specs.Prelude.{◌%◌, ◌==◌, Bool, true, false, if◌then◌else◌}
use Rattle.mq_history.specs.declared.scripts.ScriptLine.{ScriptLine}
use Rattle.mq_history.specs.declared.scripts.ScriptLine.TheVariants as lines
use Rattle.mq_history.specs.declared.scenario.Step.{Step}
use Rattle.mq_soak.specs.Drawn.{drawn, upper}
use Rattle.mq_soak.specs.Soak.{commit_after, lines_to, put, round, steps_to, stop}

-- a MQCMIT for every twenty puts
commits : (k : ℕ) (b : Bool) → (suc k % 20 == 0) ≡ b → 20 * length {A = ScriptLine} (if b then lines.Mqcmit ∷ [] else []) + suc k % 20 ≡ k % 20 + 1
commits k true e = let is : suc k % 20 ≡ 0 = eqb-true (suc k % 20) 0 e in omega (arith, is)
commits k false e = let is : suc k % 20 ≢ 0 = eqb-false (suc k % 20) 0 e in omega (arith, is)

pub lines_are : (n k : ℕ) → 20 * length (lines_to n k) + k % 20 ≡ 20 + 21 * k
lines_are n zero = refl
lines_are n (suc k) =
    let long = length-append (lines_to n k) (put (suc k) (upper (drawn n (suc k))) ∷ commit_after (suc k)) in
    let here = commits k (suc k % 20 == 0) refl in
    let before = lines_are n k in
    omega (arith, long, here, before)

-- four steps more for every ten rounds
stops : (k : ℕ) (b : Bool) → (suc k % 10 == 0) ≡ b → 10 * length {A = Step} (if b then stop else []) + 4 * (suc k % 10) ≡ 4 * (k % 10) + 4
stops k true e = let is : suc k % 10 ≡ 0 = eqb-true (suc k % 10) 0 e in omega (arith, is)
stops k false e = let is : suc k % 10 ≢ 0 = eqb-false (suc k % 10) 0 e in omega (arith, is)

pub steps_are : (k : ℕ) → 10 * length (steps_to k) + 4 * (k % 10) ≡ 50 + 24 * k
steps_are zero = refl
steps_are (suc k) =
    let long = length-append (steps_to k) (round (suc k)) in
    let here = stops k (suc k % 10 == 0) refl in
    let before = steps_are k in
    omega (arith, long, here, before)

pub few_lines : (n : ℕ) → n ≤ 1000 → length (lines_to n (20 * n)) ≤ 25000
few_lines n le = let are = lines_are n (20 * n) in omega (arith, le, are)

pub few_steps : (n : ℕ) → n ≤ 1000 → length (steps_to n) ≤ 3000
few_steps n le = let are = steps_are n in omega (arith, le, are)
