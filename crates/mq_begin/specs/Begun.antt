-- The managers of a scenario that begin, each from the log on its own disk.
use Rattle.std.specs.Prelude.{◌≡◌, ◌⊎◌, ◌≤◌, ◌+◌, ℕ, suc, min, List, [], ◌∷◌, ◌++◌, map, take, slice_get, Option, Some, None, length, option_to_list}
use Rattle.mq_base.specs.Outside.{Rose}
use Rattle.mq_calls.specs.declared.commands.BeginFault.{BeginFault}
use Rattle.mq_calls.specs.declared.commands.BeginFault.TheVariants as begins
use Rattle.mq_disk.specs.declared.shelf.TakeFault.{TakeFault}
use Rattle.mq_disk.specs.declared.shelf.TakeFault.TheVariants as takes
use Rattle.mq_history.specs.declared.scenario.ManagerLine.{ManagerLine}
use Rattle.mq_calls.specs.State.{Given}
use Rattle.mq_manager.specs.from_core.Values.{CoreValue}
use Rattle.mq_manager.specs.from_restart.Begun.{given_by, HasBegun, IsBadOf}
use Rattle.mq_begin.specs.declared.faults.NetFault.{NetFault}
use Rattle.mq_begin.specs.declared.faults.NetFault.TheVariants as faults

-- the moment with which the managers begin: the scenario's, or that of the start, at most 253,300,000,000,000
abbrev pub moment_or : Option ℕ → ℕ → ℕ
moment_or (Some moment) start = moment
moment_or None start = min start 253300000000000

-- what a manager is given: its number, from 1, with its name and its log's maximum
abbrev pub given_at : ℕ → ManagerLine → Given
given_at place l = given_by (place + 1) l.name l.log_max

abbrev pub net_fault : ℕ → BeginFault → NetFault
net_fault place begins.Disk = faults.DiskFault
net_fault place (begins.BadLog gate) = faults.BadLog place gate
net_fault place begins.NoMemory = faults.NoMemory

abbrev pub taken_fault : TakeFault → NetFault
taken_fault takes.Failed = faults.DiskFault
taken_fault takes.NoMemory = faults.NoMemory

-- A manager began from the bytes that its disk had, where the shelf tells them.
pub record BeginsOn (tells : Type 0) (holds : List ℕ → Type 0) (g : Given) (moment : ℕ) (core : CoreValue) : Type 0 where
  pub seen : List ℕ
  pub is : (b : List ℕ) → holds b → seen ≡ b
  pub begun : HasBegun tells seen 0 g moment core

-- the bytes of its disk are no log of it, at this gate
pub record ReadsBad (tells : Type 0) (holds : List ℕ → Type 0) (g : Given) (gate : ℕ) : Type 0 where
  pub seen : List ℕ
  pub is : (b : List ℕ) → holds b → seen ≡ b
  pub bad : tells → IsBadOf g seen (begins.BadLog gate)

-- Why one did not: `count` is that of its disk's faults, if this was taken.
abbrev pub HasFailed : Option ℕ → Type 0
HasFailed None = ⊥
HasFailed (Some count) = Rose 0 count

abbrev pub Refuses : (tells : Type 0) (holds : List ℕ → Type 0) (place : ℕ) (g : Given) (old new : ℕ) → Option ℕ → NetFault → Type 0
Refuses tells holds place g old new count faults.DiskFault = Rose old new ⊎ HasFailed count
Refuses tells holds place g old new count (faults.BadLog m gate) = (m ≡ place) × ReadsBad tells holds g gate
Refuses tells holds place g old new count faults.NoMemory = Unit {0}

-- the bytes that a shelf holds for the log of a manager
abbrev pub Held : Type 1
Held = List ℕ → List ℕ → Type 0

-- All managers from a place on began, each with what its own disk told.
abbrev pub AllBegan : Type 0 → Held → ℕ → ℕ → List ManagerLine → List CoreValue → Type 0
AllBegan tells held moment place [] [] = Unit {0}
AllBegan tells held moment place [] (core ∷ cores) = ⊥
AllBegan tells held moment place (l ∷ ls) [] = ⊥
AllBegan tells held moment place (l ∷ ls) (core ∷ cores) = BeginsOn tells (held l.name) (given_at place l) moment core × AllBegan tells held moment (suc place) ls cores

-- One did not, or there was no memory for what is kept beside them all: those before it had begun, and the disks that were taken are
-- handed back.
abbrev pub IsWant : NetFault → Type 0
IsWant faults.DiskFault = ⊥
IsWant (faults.BadLog m gate) = ⊥
IsWant faults.NoMemory = Unit {0}

abbrev pub RefusesAt : (tells : Type 0) (held : Held) (place old new : ℕ) → Option ℕ → NetFault → Option ManagerLine → Type 0
RefusesAt tells held place old new own fault None = IsWant fault
RefusesAt tells held place old new own fault (Some l) = Refuses tells (held l.name) place (given_at place l) old new own fault

pub record NotBegan (tells : Type 0) (held : Held) (moment : ℕ) (ls : List ManagerLine) (old new : ℕ) (counts : List ℕ) (fault : NetFault) : Type 0 where
  pub before : List CoreValue
  pub own : Option ℕ
  pub began : AllBegan tells held moment 0 (take (length before) ls) before
  pub refuses : RefusesAt tells held (length before) old new own fault (slice_get ls (length before))
  pub handed : counts ≡ map (λ (c : CoreValue). c.faults) before ++ option_to_list own
  pub later : old ≤ new
