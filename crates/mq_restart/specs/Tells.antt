-- What the log of a manager tells of it, as its restart asks it.
use Rattle.std.specs.Prelude.{◌≡◌, ℕ, ◌+◌, ◌-◌, ◌*◌, ◌<◌, ◌≤◌, Bool, true, false, List, [], ◌∷◌, ◌++◌, length, Option, Some, None}
use Rattle.mq_log.specs.declared.images.Found.{Found}
use Rattle.mq_log.specs.declared.images.Found.TheVariants.{Before, After, Other}
use Rattle.mq_log.specs.State.{LogState, log_length}
use Rattle.mq_calls.specs.State.{Plain, Noted}
use Rattle.mq_spec_manager.specs.Stops.{CanBeKept, redone_if, started_need, started_record, calls_of_restart}
use Rattle.mq_spec_log.specs.Applies.Start.{Later}
use Rattle.mq_law_image.specs.Tells.{TellsDown}
use Rattle.mq_record.specs.Records.{record_bytes}
use Rattle.mq_redo.specs.from_core.{ReadLog}
use Rattle.mq_rebuild.specs.declared.building.Built.{Built}
use Rattle.mq_redo.specs.from_core.Ties.{ends_need}
use Rattle.mq_restart.specs.Begun.{IsFresh, begun_ends}

-- Bodies of a manager that is down: what lasts of it, with the noted write or without it, behind the Started records of so
-- many restarts that were stopped; and how long they are.
pub record Stood (kept : Bool) (started : ℕ) (noted : Option Noted) (starts : ℕ) (bodies : List (List ℕ)) (p : Plain) : Type 0 where
  pub can : CanBeKept kept noted
  pub few : started ≤ starts
  pub some : 0 < length bodies
  pub tells : TellsDown Later kept started noted bodies p
  pub long : log_length bodies ≡ (redone_if kept noted p).log.length + started * started_need p.given

-- with the body whose forced write was stopped, if there is one
abbrev pub StoodWith : Bool → ℕ → Option Noted → ℕ → List (List ℕ) → Option (List ℕ) → Plain → Type 0
StoodWith kept started noted starts bodies None p = Unit {0}
StoodWith kept started noted starts bodies (Some body) p = Stood kept started noted starts (bodies ++ body ∷ []) p

-- No restart has read the log since the stop: it lacks the noted write, whose record is the pending body. Or one has: the noted
-- write was found or not, and the pending body is a Started record.
pub record StoodFirst (noted : Option Noted) (starts : ℕ) (bodies : List (List ℕ)) (pending : Option (List ℕ)) (p : Plain) : Type 0 where
  pub without : Stood false 0 noted starts bodies p
  pub with_it : StoodWith true 0 noted starts bodies pending p

pub record StoodLater (kept : Bool) (noted : Option Noted) (starts : ℕ) (bodies : List (List ℕ)) (pending : Option (List ℕ)) (p : Plain) : Type 0 where
  pub started : ℕ
  pub without : Stood kept started noted starts bodies p
  pub with_it : StoodWith kept (started + 1) noted starts bodies pending p

abbrev pub LogStood : Option ReadLog → Option Noted → ℕ → List (List ℕ) → Option (List ℕ) → Plain → Type 0
LogStood None noted starts bodies pending p = StoodFirst noted starts bodies pending p
LogStood (Some read) noted starts bodies pending p = StoodLater read.kept noted starts bodies pending p

-- whether the log holds the noted write: the first restart that reads it says so, and the later ones say the same
abbrev pub kept_of : Option ReadLog → Found → Bool
kept_of None Before = false
kept_of None After = true
kept_of None Other = false
kept_of (Some read) found = read.kept

-- the bodies that a restart found, where they are what the history says
pub record StoodBy (read : Option ReadLog) (found : Found) (noted : Option Noted) (starts : ℕ) (bodies : List (List ℕ)) (p : Plain) : Type 0 where
  pub started : ℕ
  pub stood : Stood (kept_of read found) started noted starts bodies p

-- the log behind the Started record of a restart that found these bodies
pub record HasRestarted (p : Plain) (found : List (List ℕ)) (b : Built) (log : LogState) : Type 0 where
  pub fresh : IsFresh p.given.log_max log
  pub bodies : log.bodies ≡ found ++ record_bytes (started_record p.given (b.incarnation + 1)) ∷ []
  pub long : log_length log.bodies ≡ log_length found + started_need p.given
  pub armed : log.armed ≡ p.log.armed - calls_of_restart
  pub aside : ends_need (begun_ends b) ≤ log.spare
