-- Framed bodies that were read, beside those that a log had and the one whose forced write was stopped.
use Rattle.std.specs.Prelude.{◌≡◌, ◌≢◌, ℕ, List, [], ◌∷◌, ◌++◌, Option, Some, None}
use Rattle.mq_log.specs.declared.images.Found.{Found}
use Rattle.mq_log.specs.declared.images.Found.TheVariants.{Before, After, Other}
use Rattle.mq_log.specs.Bodies.{frame, Fits}
use Rattle.mq_log.specs.State.{IsBeforeOrAfter}

-- the front and one more body
abbrev pub IsMoreBy : List ℕ → List ℕ → List ℕ → Type 0
IsMoreBy front body read = (read ≡ front ++ frame body) × Fits body

-- the same, where there may be none
abbrev pub IsMore : List ℕ → Option (List ℕ) → List ℕ → Type 0
IsMore front None read = ⊥
IsMore front (Some body) read = IsMoreBy front body read

-- what was found, by the bytes
abbrev pub IsImage : List ℕ → Option (List ℕ) → Found → List ℕ → Type 0
IsImage front pending Before read = read ≡ front
IsImage front pending After read = IsMore front pending read
IsImage front pending Other read = (read ≢ front) × (IsMore front pending read → ⊥)

-- what was found, by the bodies: the bodies from before; these and the pending one; or neither
abbrev pub IsFound : List (List ℕ) → Option (List ℕ) → Found → List (List ℕ) → Type 0
IsFound bodies pending Before found = found ≡ bodies
IsFound bodies None After found = ⊥
IsFound bodies (Some body) After found = found ≡ bodies ++ body ∷ []
IsFound bodies pending Other found = IsBeforeOrAfter bodies pending found → ⊥
