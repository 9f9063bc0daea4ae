-- What the log of a manager tells of it between its calls, and what a call leaves of that.
use Rattle.std.specs.Prelude.{◌≡◌, ℕ, true, List, [], ◌∷◌, ◌++◌, Option, Some, None, Result, Ok, Err}
use Rattle.mq_calls.specs.declared.commands.Halt.TheVariants as halts
use Rattle.mq_calls.specs.Words.{Noted, Part, Plain, Step, Refuse, Do, lasting}
use Rattle.mq_calls.specs.declared.commands.Halt.{Halt}
use Rattle.mq_calls.specs.declared.records.LogRecord.{LogRecord}
use Rattle.mq_spec_manager.specs.Stops.{redone}
use Rattle.mq_record.specs.Records.{record_bytes}
use Rattle.mq_law_log.specs.from_spec_log.Applies.{is_in_bounds}
use Rattle.mq_law_log.specs.from_spec_log.Applies.Start.{Later}
use Rattle.mq_law_log.specs.from_spec_log.Bodies.{image, record_of}
use Rattle.mq_law_log.specs.Restarts.{note_at}
use Rattle.mq_receive.specs.from_core.Values.{CoreValue, LogBodies}

-- the image of the bodies is what lasts
abbrev pub Tells : List (List ℕ) → Plain → Type 0
Tells bodies p = image p.given Later bodies ≡ Ok (lasting p)

-- The records of a call are read from their bytes, within the bounds of numbers.
abbrev pub IsRead : Option LogRecord → Type 0
IsRead None = Unit {0}
IsRead (Some r) = (record_of (record_bytes r) ≡ Some r) × (is_in_bounds Later r ≡ true)

abbrev pub AreRead : List Part → Type 0
AreRead [] = Unit {0}
AreRead (part ∷ parts) = IsRead part.forced × AreRead parts

abbrev pub StepRead : {F T : Type 0} → Step F T → Type 0
StepRead (Refuse reason) = Unit {0}
StepRead (Do reply parts) = AreRead parts

-- with its pending body, if any, the log tells what lasts where the note is redone
abbrev pub TellsRedone : Option Noted → List (List ℕ) → Option (List ℕ) → Plain → Type 0
TellsRedone (Some n) bodies (Some body) p = image p.given Later (bodies ++ body ∷ []) ≡ Ok (lasting (redone n p))
TellsRedone _ bodies pending p = Unit {0}

-- Behind a stopped write: without its body the log tells what lasts of the frozen manager, with it what the write would have come to.
pub record TellsBroken (noted : Option Noted) (log : LogBodies) (p : Plain) : Type 0 where
  pub lost : Tells log.bodies p
  pub found : TellsRedone noted log.bodies log.pending p

-- the note of a step's stopped part
abbrev pub note_in : {F T : Type 0} → ℕ → Step F T → Option Noted
note_in n (Refuse reason) = None
note_in n (Do reply parts) = note_at n parts

-- what a call leaves
abbrev pub TellsAfter : {F T : Type 0} → Step F T → Result T (Halt F) → CoreValue → Type 0
TellsAfter step (Ok value) new = Tells new.log.bodies new.plain
TellsAfter step (Err (halts.Refused reason)) new = Tells new.log.bodies new.plain
TellsAfter step (Err halts.NoMemory) new = Tells new.log.bodies new.plain
TellsAfter step (Err (halts.Stopped by)) new = (n : ℕ) × TellsBroken (note_in n step) new.log new.plain
