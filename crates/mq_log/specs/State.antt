-- What the layer above sees of a log.
use Rattle.std.specs.Prelude.{◌≡◌, ◌⊎◌, ◌+◌, ◌-◌, ℕ, Bool, false, List, [], ◌∷◌, ◌++◌, length, take, drop, Option, Some, None, Result, Ok, Err, if◌then◌else◌, nat_lt}
use Rattle.mq_disk.specs.declared.cutter.Stop.{Stop}
use Rattle.mq_log.specs.Bodies.{bodies_of, frames, IsLog}

-- the bodies; whether it takes more; the body whose forced write was stopped; what is reserved; the room behind the
-- last gate for which memory was taken, without what is set aside of it, and that; the largest length; the calls before an
-- armed cut; the disk's faults
pub record LogState : Type 0 where
  pub bodies : List (List ℕ)
  pub live : Bool
  pub pending : Option (List ℕ)
  pub reserved : ℕ
  pub room : ℕ
  pub spare : ℕ
  pub max : ℕ
  pub armed : ℕ
  pub faults : ℕ

-- the place of the last gate, and one
abbrev pub log_length : List (List ℕ) → ℕ
log_length bodies = length (frames bodies) + 1

-- the bodies in front of the last gate
abbrev pub front_bodies : ℕ → List ℕ → List (List ℕ)
front_bodies end bytes = bodies_of (take end bytes ++ 0 ∷ [])

-- the body behind the last gate
abbrev pub body_behind : ℕ → List ℕ → Option (List ℕ)
body_behind end bytes = if nat_lt (end + 1) (length bytes) then Some (take (length bytes - (end + 6)) (drop (end + 5) bytes)) else None

-- these bodies, or with one more
abbrev pub IsBeforeOrAfter : List (List ℕ) → Option (List ℕ) → List (List ℕ) → Type 0
IsBeforeOrAfter bodies None found = found ≡ bodies
IsBeforeOrAfter bodies (Some body) found = (found ≡ bodies) ⊎ (found ≡ bodies ++ body ∷ [])

-- the bytes are the log of these bodies, or of these with one more
abbrev pub IsLogOf : List (List ℕ) → Option (List ℕ) → List ℕ → Type 0
IsLogOf bodies None bytes = IsLog bytes bodies
IsLogOf bodies (Some body) bytes = IsLog bytes bodies ⊎ IsLog bytes (bodies ++ body ∷ [])

-- after a forced write
abbrev pub Appended : LogState → List ℕ → Result (Unit {0}) Stop → LogState → Type 0
Appended old body (Ok _) new = new ≡ record old { bodies = old.bodies ++ body ∷ []; room = new.room; armed = new.armed; faults = new.faults }
Appended old body (Err _) new = new ≡ record old { live = false; pending = Some body; room = new.room; armed = new.armed; faults = new.faults }
