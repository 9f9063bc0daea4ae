-- The clock, an armed cut and a restart that fails: what holds of a manager says nothing of its clock, of its log's length and of
-- the writes that failed.
use Rattle.std.proofs.Common.{ℕ, ◌+◌, Bool, true, false}
use Rattle.std.specs.Prelude.{Option}
use Rattle.mq_calls.specs.declared.commands.RestartFault.{RestartFault}
use Rattle.mq_calls.specs.declared.commands.RestartFault.TheVariants as faults
use Rattle.mq_calls.specs.State.{Plain, Running, LogState, Noted}
use Rattle.mq_calls.specs.State.Running.{Down}
use Rattle.mq_spec_manager.specs.Stops.{advance_clock, cut, failed}
use Rattle.mq_law_manager.specs.Facts.{IsSound, IsFrozen, IsStocked}

abbrev over : Running → LogState → ℕ → Plain → Plain
over running log moment p = record p { running = running; log = log; moment = moment }

stocked_over : (running : Running) (log : LogState) (moment : ℕ) (p : Plain) → IsStocked p → IsStocked (over running log moment p)
stocked_over running log moment p s = record { once = s.once; placed = s.placed; rows = s.rows; puts = s.puts; routed = s.routed }

sound_over : (running : Running) (log : LogState) (moment : ℕ) (p : Plain) → IsSound p → IsSound (over running log moment p)
sound_over running log moment p h = record { facts = h.facts; named = h.named; stocked = stocked_over running log moment p h.stocked }

frozen_over : (running : Running) (log : LogState) (moment : ℕ) (p : Plain) → IsFrozen p → IsFrozen (over running log moment p)
frozen_over running log moment p h = record { still = h.still; named = h.named; stocked = stocked_over running log moment p h.stocked }

pub clock_sound : (by : ℕ) (p : Plain) → IsSound p → IsSound (advance_clock by p)
clock_sound by p h = sound_over p.running p.log (advance_clock by p).moment p h

pub cut_sound : (k : ℕ) (p : Plain) → IsSound p → IsSound (cut k p)
cut_sound k p h = sound_over p.running (cut k p).log p.moment p h

pub clock_frozen : (by : ℕ) (p : Plain) → IsFrozen p → IsFrozen (advance_clock by p)
clock_frozen by p h = frozen_over p.running p.log (advance_clock by p).moment p h

pub cut_frozen : (k : ℕ) (p : Plain) → IsFrozen p → IsFrozen (cut k p)
cut_frozen k p h = frozen_over p.running (cut k p).log p.moment p h

pub failed_frozen : (fault : RestartFault) (in_write : Bool) (left : ℕ) (noted : Option Noted) (starts : ℕ) (p : Plain) → IsFrozen p → IsFrozen (failed fault in_write left noted starts p).next
failed_frozen faults.NoMemory in_write left noted starts p h = h
failed_frozen faults.Up true left noted starts p h = frozen_over (Down noted (starts + 1)) (record p.log { armed = left }) p.moment p h
failed_frozen faults.Up false left noted starts p h = frozen_over p.running (record p.log { armed = left }) p.moment p h
failed_frozen faults.Disk true left noted starts p h = frozen_over (Down noted (starts + 1)) (record p.log { armed = left }) p.moment p h
failed_frozen faults.Disk false left noted starts p h = frozen_over p.running (record p.log { armed = left }) p.moment p h
failed_frozen faults.Cut true left noted starts p h = frozen_over (Down noted (starts + 1)) (record p.log { armed = left }) p.moment p h
failed_frozen faults.Cut false left noted starts p h = frozen_over p.running (record p.log { armed = left }) p.moment p h
failed_frozen (faults.BadLog place) true left noted starts p h = frozen_over (Down noted (starts + 1)) (record p.log { armed = left }) p.moment p h
failed_frozen (faults.BadLog place) false left noted starts p h = frozen_over p.running (record p.log { armed = left }) p.moment p h
