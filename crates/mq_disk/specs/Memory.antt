-- A disk in memory.
use Rattle.std.specs.Prelude.{◌≡◌, ◌⊎◌, ℕ, ◌-◌, ◌/◌, ◌≤◌, Bool, ◌||◌, nat_le, nat_lt, if◌then◌else◌, List, length, take, Result, Ok, Err}
use Rattle.mq_base.specs.declared.outside.Failed.{Failed}
use Rattle.mq_base.specs.Outside.{raised}
use Rattle.mq_base.specs.Memory.{is_failing}
use Rattle.mq_disk.specs.Disk.{overwritten}
use Rattle.mq_disk.specs.declared.memory.Image.{Image}
use Rattle.mq_disk.specs.declared.memory.Image.TheVariants.{Kept, Lost, Torn}

-- the present bytes, what a restart would leave, and how many bytes there is memory for
pub record TwinState : Type 0 where
  pub seen : List ℕ
  pub left : List ℕ
  pub room : ℕ

-- both lists stand in memory of that room, and are the same up to a place
pub record Twinned (bytes left : List ℕ) (bytes_capacity left_capacity same room : ℕ) : Type 0 where
  pub agree : take same bytes ≡ take same left
  pub bytes_fit : length bytes ≤ room
  pub left_fits : length left ≤ room
  pub bytes_room : room ≤ bytes_capacity
  pub left_room : room ≤ left_capacity

-- what a write leaves of the image of a restart: nothing new, where its place lies past the image
abbrev pub after_part : List ℕ → ℕ → List ℕ → List ℕ
after_part left place piece = if nat_le place (length left) then overwritten left place piece else left

-- the present bytes and what a restart would leave, the room, the image, the calls that fail, the number of the call to
-- come, the count of faults
pub record DiskState : Type 0 where
  pub seen : List ℕ
  pub left : List ℕ
  pub room : ℕ
  pub image : Image
  pub failing : List ℕ
  pub calls : ℕ
  pub faults : ℕ

-- of a pending write as much as was written, nothing, or the first half
abbrev pub kept_of : Image → ℕ → ℕ
kept_of Kept n = n
kept_of Lost n = 0
kept_of Torn n = n / 2

-- of a pending cut all, nothing, or all
abbrev pub cut_left : Image → ℕ → List ℕ → List ℕ
cut_left Kept n left = take n left
cut_left Lost n left = left
cut_left Torn n left = take n left

-- what a crash may leave
abbrev pub leaves : DiskState → List ℕ → Type 0
leaves m c = (c ≡ m.left) ⊎ (c ≡ m.seen)

-- the call to come is one of those that fail
abbrev pub is_listed : DiskState → Bool
is_listed m = is_failing m.failing m.calls

-- a write is refused where its call is listed, or where it passes the room
abbrev pub is_refused : ℕ → List ℕ → DiskState → Bool
is_refused place piece m = is_listed m || nat_lt (m.room - place) (length piece)

-- what a call answers
abbrev pub answer : {T : Type 0} → Bool → T → Result T Failed
answer refused value = if refused then Err (record {}) else Ok value

-- after a call that failed, and after one that didn't
abbrev pub failed : DiskState → DiskState
failed m = record m { calls = raised m.calls; faults = raised m.faults }

abbrev pub passed : DiskState → DiskState
passed m = record m { calls = raised m.calls }

-- the state after each kind of call
abbrev pub after_read : DiskState → DiskState
after_read m = if is_listed m then failed m else passed m

abbrev pub after_write : ℕ → List ℕ → DiskState → DiskState
after_write place piece m = if is_refused place piece m then failed m else record (passed m) { seen = overwritten m.seen place piece; left = after_part m.left place (take (kept_of m.image (length piece)) piece) }

abbrev pub after_cut : ℕ → DiskState → DiskState
after_cut n m = if is_listed m then failed m else record (passed m) { seen = take n m.seen; left = cut_left m.image n m.left }

abbrev pub after_sync : DiskState → DiskState
after_sync m = if is_listed m then failed m else record (passed m) { left = m.seen }

abbrev pub after_restart : DiskState → DiskState
after_restart m = if is_listed m then failed m else record (passed m) { seen = m.left }
