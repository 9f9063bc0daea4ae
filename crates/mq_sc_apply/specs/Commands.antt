-- A command on the objects of a manager: its answer, and the definitions after it.
use Rattle.std.specs.Prelude.{◌≡◌, ℕ, List, [], Result, Ok, Err}
use Rattle.mq_calls.specs.from_objects.{Command, Definitions}
use Rattle.mq_calls.specs.from_objects.CommandVariants as commands
use Rattle.mq_calls.specs.from_objects.Changed.{changed}
use Rattle.mq_calls.specs.declared.commands.Shown.{Shown}
use Rattle.mq_calls.specs.declared.commands.ScRefusal.{ScRefusal}
use Rattle.mq_calls.specs.declared.commands.ScRefusal.TheVariants as refusals
use Rattle.mq_sc_apply.specs.declared.answers.Planned.{Planned}
use Rattle.mq_sc_apply.specs.declared.answers.Plan.{Plan}
use Rattle.mq_sc_apply.specs.declared.answers.Plan.TheVariants as plans
use Rattle.mq_sc_apply.specs.Uses.{Uses}
use Rattle.mq_sc_apply.specs.Planned.{define, alter, alter_manager, delete}
use Rattle.mq_sc_apply.specs.Displayed.{display}

-- a change is what a command does
abbrev pub to_change : Result Planned ScRefusal → Result Plan ScRefusal
to_change (Ok planned) = Ok (plans.Change planned)
to_change (Err refusal) = Err refusal

-- lines are
abbrev pub to_show : Result Shown ScRefusal → Result Plan ScRefusal
to_show (Ok shown) = Ok (plans.Show shown)
to_show (Err refusal) = Err refusal

-- what a command does at a manager, or the first refusal that applies
abbrev pub plan : Command → (own : List ℕ) → Definitions → Uses → Result Plan ScRefusal
plan (commands.Define d) own defs u = to_change (define d defs u)
plan (commands.Alter a) own defs u = to_change (alter a defs u)
plan (commands.AlterManager a) own defs u = to_change (alter_manager a defs u)
plan (commands.Delete d) own defs u = to_change (delete d defs u)
plan (commands.Display d) own defs u = to_show (display d own defs u)

-- the lines of an answer; none but for DISPLAY
abbrev pub reply : Result Plan ScRefusal → Result Shown ScRefusal
reply (Ok (plans.Change planned)) = Ok (record { lines = [] })
reply (Ok (plans.Show shown)) = Ok shown
reply (Err refusal) = Err refusal

-- the definitions after an answer
abbrev pub after : Result Plan ScRefusal → Definitions → Definitions
after (Ok (plans.Change planned)) defs = changed planned.change defs
after (Ok (plans.Show shown)) defs = defs
after (Err refusal) defs = defs

-- want of memory may come in place of any answer
abbrev pub GivesErr : {T : Type 0} → ScRefusal → Result T ScRefusal → Type 0
GivesErr refusals.NoMemory expected = Unit {0}
GivesErr refusals.Down expected = Err refusals.Down ≡ expected
GivesErr refusals.Exists expected = Err refusals.Exists ≡ expected
GivesErr refusals.Missing expected = Err refusals.Missing ≡ expected
GivesErr (refusals.BadValue keyword) expected = Err (refusals.BadValue keyword) ≡ expected
GivesErr refusals.InUse expected = Err refusals.InUse ≡ expected
GivesErr refusals.NotEmpty expected = Err refusals.NotEmpty ≡ expected
GivesErr refusals.Disk expected = Err refusals.Disk ≡ expected
GivesErr refusals.Cut expected = Err refusals.Cut ≡ expected

-- an answer, or want of memory in its place
abbrev pub Gives : {T : Type 0} → Result T ScRefusal → Result T ScRefusal → Type 0
Gives (Ok value) expected = Ok value ≡ expected
Gives (Err refusal) expected = GivesErr refusal expected
