-- A log that is opened for a first start.
use Rattle.std.proofs.Common.{◌≡◌, ℕ, ◌≤◌, Bool, true, false, List, refl, arith, inl}
use Rattle.std.specs.Prelude.{None}
use Rattle.mq_base.specs.Outside.{Rose}
use Rattle.mq_log.specs.declared.open.StartFault.{StartFault}
use Rattle.mq_log.specs.declared.open.StartFault.TheVariants as starts
use Rattle.mq_log.specs.Open.{Made, Refused, IsBadOf as IsBadLog}
use Rattle.mq_log.specs.State.{LogState}
use Rattle.mq_calls.specs.declared.commands.BeginFault.TheVariants as faults
use Rattle.mq_calls.specs.State.{Given}
use Rattle.mq_log.specs.Bodies.{IsLog}
use Rattle.mq_restart.specs.Begun.{begin_fault, HasOpened, IsBadOf, HasNotBegun}

pub opens : (tells : Type 0) (seen : List ℕ) (before max n armed : ℕ) (stopped : Bool) (log : LogState) → (log.live ≡ true) × (log.pending ≡ None) × (log.reserved ≡ 0) × (log.max ≡ max) → armed ≡ 0 → Made n armed stopped log.armed false → (tells → IsLog seen log.bodies) → before ≤ log.faults → HasOpened tells seen before max log
opens tells seen before max n armed stopped log h none made read later = record { opened = record { fresh = record { live = h.0; settled = h.1; free = h.2; most = h.3 }; armed = let e = made.2 in omega (arith, none, e) }; read = read; later = later }

bad_of : (g : Given) (seen : List ℕ) (fault : StartFault) → IsBadLog seen fault → IsBadOf g seen (begin_fault fault)
bad_of g seen starts.Disk h = tt
bad_of g seen starts.Cut h = tt
bad_of g seen (starts.BadLog place) h = inl h
bad_of g seen starts.NoMemory h = tt

-- the disk failed, for no cut was armed
rose_of : (n m armed left old new : ℕ) (stopped after : Bool) (fault : StartFault) → Refused n m armed stopped fault left after → armed ≡ 0 → stopped ≡ false → (fault ≡ starts.Disk → Rose old new) → begin_fault fault ≡ faults.Disk → Rose old new
rose_of n m armed left old new stopped after starts.Disk r none passes rose e = rose refl
rose_of n m armed left old new stopped after starts.Cut r none passes rose e = let k = (r.1 passes).0 in absurd (omega (arith, k, none))
rose_of n m armed left old new stopped after (starts.BadLog place) r none passes rose e = absurd cc
rose_of n m armed left old new stopped after starts.NoMemory r none passes rose e = absurd cc

pub not_opened : (tells : Type 0) (seen : List ℕ) (n m armed left old new : ℕ) (stopped after : Bool) (fault : StartFault) → (tells → IsBadLog seen fault) → Refused n m armed stopped fault left after → armed ≡ 0 → stopped ≡ false
    → old ≤ new → (fault ≡ starts.Disk → Rose old new) → (g : Given) → HasNotBegun tells seen g old (begin_fault fault) new
not_opened tells seen n m armed left old new stopped after fault bad r none passes later rose g = record {
  bad = λ t. bad_of g seen fault (bad t);
  later = later;
  rose = rose_of n m armed left old new stopped after fault r none passes rose;
}
