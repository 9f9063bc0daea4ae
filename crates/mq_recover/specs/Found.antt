-- What a recovery answers.
use Rattle.std.specs.Prelude.{◌≡◌, ℕ, List, Result, Ok, Err}
use Rattle.mq_recover.specs.declared.start.Start as code
use Rattle.mq_recover.specs.declared.start.Start.TheVariants as codes
use Rattle.mq_recover.specs.declared.recovery.RecoverFault.{RecoverFault}
use Rattle.mq_recover.specs.declared.recovery.RecoverFault.TheVariants.{BadRecord, NoMemory}
use Rattle.mq_recover.specs.declared.recovering.Recovering.{Recovering}
use Rattle.mq_recover.specs.Recovering.{seen}
use Rattle.mq_calls.specs.State.{Given}
use Rattle.mq_calls.specs.declared.image.Image.{Image}
use Rattle.mq_recover_read.specs.from_spec_log.Applies.{Start}
use Rattle.mq_recover_read.specs.from_spec_log.Applies.Start.{First, Later}

-- a start as the code names it
abbrev pub start_in : code.Start → Start
start_in codes.First = First
start_in codes.Later = Later

-- what of the scenario the records of a manager tell
abbrev pub given_as : ℕ → List ℕ → Given
given_as number name = record { number = number; name = name; log_max = 0 }

-- the image, or the place of the gate at fault, or no memory
abbrev pub Recovers : Result Image ℕ → Result Image RecoverFault → Type 0
Recovers (Ok meant) (Ok image) = image ≡ meant
Recovers (Ok meant) (Err (BadRecord place)) = ⊥
Recovers (Err at) (Ok image) = ⊥
Recovers (Err at) (Err (BadRecord place)) = place ≡ at
Recovers _ (Err NoMemory) = Unit {0}

-- the same before the image is given out
abbrev pub Told : Result Image ℕ → Result Recovering RecoverFault → Type 0
Told (Ok meant) (Ok told) = seen told ≡ meant
Told (Ok meant) (Err (BadRecord place)) = ⊥
Told (Err at) (Ok told) = ⊥
Told (Err at) (Err (BadRecord place)) = place ≡ at
Told _ (Err NoMemory) = Unit {0}

-- what was told in the end, or the fault
abbrev pub walked : {A : Type 0} → Recovering → Result A RecoverFault → Result Recovering RecoverFault
walked now (Ok done) = Ok now
walked now (Err fault) = Err fault
