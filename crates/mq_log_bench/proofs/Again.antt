-- What was appended is read again.
use Rattle.std.proofs.Common.{◌≡◌, ◌≤◌, inl, inr, ℕ, List, [], ◌∷◌, ◌++◌, length, refl, ap, arith, length-append}
use Rattle.std.specs.Prelude.{Option, Some, None}
use Rattle.mq_log.specs.Bodies.{IsLog}
use Rattle.mq_log.specs.State.{IsLogOf}
use Rattle.mq_log.proofs.Logs.{log_is_one}

-- an empty disk has no bodies
pub none_at_first : (bytes : List ℕ) (bodies : List (List ℕ)) → length bytes ≤ 1 → IsLog bytes bodies → length bodies ≡ 0
none_at_first bytes bodies short log = ap length (log_is_one bytes bodies [] log (inl (short, refl)))

-- a log of some bodies, and perhaps one more, has no fewer
pub no_fewer : (bodies found : List (List ℕ)) (pending : Option (List ℕ)) (bytes : List ℕ) → IsLogOf bodies pending bytes → IsLog bytes found → length bodies ≤ length found
no_fewer bodies found None bytes stood log = omega (arith, ap length (log_is_one bytes found bodies log stood))
no_fewer bodies found (Some body) bytes (inl same) log = omega (arith, ap length (log_is_one bytes found bodies log same))
no_fewer bodies found (Some body) bytes (inr more) log =
    omega (arith, ap length (log_is_one bytes found (bodies ++ body ∷ []) log more), length-append bodies (body ∷ []))
