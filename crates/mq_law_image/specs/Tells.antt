-- What the bodies of a log tell of their manager.
use Rattle.std.specs.Prelude.{◌≡◌, ℕ, ◌+◌, Bool, List, Option, Ok}
use Rattle.mq_calls.specs.State.{Plain, Noted, Running, LogState}
use Rattle.mq_calls.specs.Images.{lasting}
use Rattle.mq_calls.specs.declared.image.Image.{Image}
use Rattle.mq_law_log.specs.from_spec_log.Applies.{Start}
use Rattle.mq_law_log.specs.from_spec_log.Bodies.{image}
use Rattle.mq_law_log.specs.from_spec_manager.Stops.{redone_if}

-- what lasts of it, while it is up
abbrev pub Tells : Start → List (List ℕ) → Plain → Type 0
Tells start bodies p = image p.given start bodies ≡ Ok (lasting p)

-- behind the Started records of so many restarts that were stopped
abbrev pub later_by : ℕ → Image → Image
later_by started i = record i { incarnation = i.incarnation + started }

-- the same manager with another state, of its run and of its log, at another moment
abbrev pub over : Running → LogState → ℕ → Plain → Plain
over running log moment p = record p { running = running; log = log; moment = moment }

-- While it is down: what lasts, with what the stopped write did where its record is kept, behind so many such records; whatever
-- became of its log and its clock since.
abbrev pub TellsDown : Start → Bool → ℕ → Option Noted → List (List ℕ) → Plain → Type 0
TellsDown start kept started noted bodies p =
    (running : Running) (log : LogState) (moment : ℕ) → image p.given start bodies ≡ Ok (later_by started (lasting (redone_if kept noted (over running log moment p))))
