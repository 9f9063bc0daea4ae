-- What a restart that is refused leaves of the parts.
use Rattle.std.specs.Prelude.{ℕ, Bool, Option, Some, None}
use Rattle.mq_calls.specs.declared.commands.RestartFault.{RestartFault}
use Rattle.mq_calls.specs.declared.commands.RestartFault.TheVariants as faults
use Rattle.mq_log.specs.declared.images.Found.{Found}
use Rattle.mq_redo.specs.from_core.{Mode, ReadLog}
use Rattle.mq_redo.specs.from_core.ModeVariants as modes
use Rattle.mq_redo.specs.from_core.Views.{PartsValue}
use Rattle.mq_restart.specs.Raised.{starts_after}
use Rattle.mq_restart.specs.declared.reading.Unraised.{Unraised}
use Rattle.mq_restart.specs.declared.reading.LogRead.{LogRead}
use Rattle.mq_restart.specs.Stands.{is_kept, read_found}

abbrev pub or_read : Option ReadLog → Option ReadLog → Option ReadLog
or_read None old = old
or_read (Some r) old = Some r

-- it is down as it was, with one stopped Started record more or none, and what was read
abbrev pub fallen_mode : Option ReadLog → Bool → Mode → Mode
fallen_mode read in_write modes.Up = modes.Up
fallen_mode read in_write (modes.Down write starts old) = modes.Down write (starts_after in_write starts) (or_read read old)

abbrev pub read_noted : LogRead → ℕ → Option Found → Option ReadLog
read_noted read length None = None
read_noted read length (Some found) = Some (record { kept = is_kept (read_found read found); length = length })

-- where there was no memory the cut is armed again as it was
abbrev pub left_by : RestartFault → ℕ → ℕ → ℕ
left_by faults.NoMemory armed left = armed
left_by faults.Up armed left = left
left_by faults.Disk armed left = left
left_by faults.Cut armed left = left
left_by (faults.BadLog place) armed left = left

abbrev pub fallen : LogRead → ℕ → ℕ → Unraised → PartsValue → PartsValue
fallen read length armed e y = record y {
  mode = fallen_mode (read_noted read length e.found) e.in_write y.mode;
  log = record y.log { armed = left_by e.fault armed y.log.armed };
}

abbrev pub starts_of : Mode → ℕ
starts_of modes.Up = 0
starts_of (modes.Down write starts read) = starts
