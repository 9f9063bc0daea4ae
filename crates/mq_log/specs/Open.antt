-- What the reader of a log does.
use Rattle.std.specs.Prelude.{◌≡◌, ◌≢◌, ◌⊎◌, ◌<◌, ◌≤◌, ◌+◌, ◌-◌, ℕ, List, length, take, drop, slice_index, if◌then◌else◌, nat_lt, Bool, true, false, Result, Ok, Err}
use Rattle.mq_disk.specs.declared.cutter.Stop.{Stop}
use Rattle.mq_disk.specs.declared.cutter.Stop.TheVariants.{Cut as ByCut, Disk as ByDisk}
use Rattle.mq_log.specs.declared.open.StartFault.{StartFault}
use Rattle.mq_log.specs.declared.open.StartFault.TheVariants.{Disk, Cut, BadLog, NoMemory}
use Rattle.mq_log.specs.declared.scan.Gate.{Gate}
use Rattle.mq_log.specs.declared.scan.Gate.TheVariants.{Closed, Bad, More}
use Rattle.mq_log.specs.Bodies.{number_of, frames, AllFit, IsNoLog}
use Rattle.mq_log.specs.State.{front_bodies}

-- a start stops as the disk's call did
abbrev pub fault_of : Stop → StartFault
fault_of ByCut = Cut
fault_of ByDisk = Disk

-- whole bodies stand in front of this place
pub record Front (at : ℕ) (bytes : List ℕ) : Type 0 where
  pub framed : frames (front_bodies at bytes) ≡ take at bytes
  pub fits : AllFit (front_bodies at bytes)

-- the gate is open, and length, body or the next gate don't fit a disk of this size
pub record IsBad (at size : ℕ) (bytes : List ℕ) : Type 0 where
  pub is_open : slice_index bytes at ≡ 165
  pub cut_short : (size < at + 5) ⊎ ((at + 5 ≤ length bytes) × (size ≤ at + 5 + number_of (take 4 (drop (at + 1) bytes))))

-- what was found among the bytes that were read of a disk of this size
abbrev pub Finds : ℕ → List ℕ → Gate → Type 0
Finds size bytes (Closed at) = (at < length bytes) × Front at bytes × (slice_index bytes at ≢ 165)
Finds size bytes (Bad at) = (at < length bytes) × Front at bytes × IsBad at size bytes
Finds size bytes (More at) = (at < length bytes) × Front at bytes × (length bytes < size)

-- how many calls count: a sync, and on an empty disk the write of the first gate and its sync
abbrev pub start_calls : ℕ → ℕ
start_calls size = if nat_lt size 2 then 3 else 1

-- each outcome of a crash is an earlier one, or both are empty logs
abbrev pub Reads : (List ℕ → Type 0) → (List ℕ → Type 0) → Type 0
Reads old new = (c : List ℕ) → new c → (d : List ℕ) × old d × ((c ≡ d) ⊎ ((length c ≤ 1) × (length d ≤ 1)))

-- a bad log is told by the gate that makes it bad
abbrev pub IsBadOf : List ℕ → StartFault → Type 0
IsBadOf seen (BadLog place) = IsNoLog seen place
IsBadOf seen Disk = Unit {0}
IsBadOf seen Cut = Unit {0}
IsBadOf seen NoMemory = Unit {0}

-- no bad log
abbrev pub IsNotBad : StartFault → Type 0
IsNotBad (BadLog place) = ⊥
IsNotBad Disk = Unit {0}
IsNotBad Cut = Unit {0}
IsNotBad NoMemory = Unit {0}

-- how the calls of a start end that is refused: at most n of them count, and m are made where nothing stops it
abbrev pub Refused : ℕ → ℕ → ℕ → Bool → StartFault → ℕ → Bool → Type 0
Refused n m armed stopped Cut left after = (after ≡ true) × (stopped ≡ false → (0 < armed) × (armed ≤ n) × (left ≡ 0)) × (stopped ≡ true → left ≡ armed)
Refused n m armed stopped Disk left after = (stopped ≡ false) × (after ≡ false) × (left ≤ armed) × (0 < armed → 0 < left) × (armed ≤ left + n)
Refused n m armed stopped (BadLog _) left after = (stopped ≡ false) × (after ≡ false) × (left ≡ armed - m) × (0 < armed → m < armed)
Refused n m armed stopped NoMemory left after = (stopped ≡ false) × (after ≡ false) × (left ≡ armed - m) × (0 < armed → m < armed)

-- how they end otherwise: all n are made
abbrev pub Made : ℕ → ℕ → Bool → ℕ → Bool → Type 0
Made n armed stopped left after = (stopped ≡ false) × (after ≡ false) × (left ≡ armed - n) × (0 < armed → n < armed)

-- how the calls of a start end
abbrev pub StartEnds : {T : Type 0} → ℕ → ℕ → ℕ → Bool → Result T StartFault → ℕ → Bool → Type 0
StartEnds n m armed stopped (Ok _) left after = Made n armed stopped left after
StartEnds n m armed stopped (Err fault) left after = Refused n m armed stopped fault left after

-- how a restart ends, of whose calls n count where nothing stops it
abbrev pub RestartEnds : {T : Type 0} → ℕ → ℕ → Result T StartFault → ℕ → Type 0
RestartEnds n armed (Ok _) left = (left ≡ armed - n) × (0 < armed → n < armed)
RestartEnds n armed (Err Cut) left = (0 < armed) × (armed ≤ n) × (left ≡ 0)
RestartEnds n armed (Err Disk) left = (left ≤ armed) × (0 < armed → 0 < left) × (armed ≤ left + n)
RestartEnds n armed (Err (BadLog _)) left = (left ≡ armed - 1) × (0 < armed → 1 < armed)
RestartEnds n armed (Err NoMemory) left = (left ≡ armed - 1) × (0 < armed → 1 < armed)

-- one call counts, and three on a disk that held no log
abbrev pub EndsByOneOrThree : {T : Type 0} → ℕ → Result T StartFault → ℕ → Type 0
EndsByOneOrThree armed result left = RestartEnds 1 armed result left ⊎ RestartEnds 3 armed result left
