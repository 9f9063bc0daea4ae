-- The calls that a fuse passes on.
use Rattle.std.specs.Prelude.{◌≡◌, ◌≤◌, ◌⊎◌, ℕ, suc, zero, Option, Some, None, Result, Ok, Err, IsErr, OnErr}
use Rattle.mq_base.specs.Outside.{raised, Rose}
use Rattle.mq_disk.specs.declared.fuse.Fuse.{Fuse}

-- one call fewer is left; a blown fuse stays so
abbrev pub less_one : Option ℕ → Option ℕ
less_one None = None
less_one (Some zero) = Some zero
less_one (Some (suc n)) = Some n

-- a blown fuse is gone after a restart
abbrev pub mended : Option ℕ → Option ℕ
mended None = None
mended (Some zero) = None
mended (Some (suc n)) = Some (suc n)

-- a count of faults after an answer: one more where it is an error
abbrev pub faults_after : {T E : Type 0} → Result T E → ℕ → ℕ
faults_after (Ok _) faults = faults
faults_after (Err _) faults = raised faults

-- A call of a disk behind a fuse: one call fewer is left; it fails where none was, without a call of the disk behind, or where that disk did.
pub record Burns {D T E : Type 0} (faults : D → ℕ) (old : Fuse D) (result : Result T E) (new : Fuse D) : Type 0 where
  pub left : new.left ≡ less_one old.left
  pub blown : old.left ≡ Some 0 → IsErr result
  pub unmade : old.left ≡ Some 0 → new.inner ≡ old.inner
  pub later : faults old.inner ≤ faults new.inner
  pub failed : OnErr result ((old.left ≡ Some 0) ⊎ Rose (faults old.inner) (faults new.inner))
  pub counted : new.faults ≡ faults_after result old.faults
