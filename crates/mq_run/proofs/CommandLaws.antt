-- No command on objects is refused for its disk: one whose write is stopped is told as stopped.
use Rattle.std.proofs.Common.{ℕ, Bool, true, false, List, [], ◌∷◌}
use Rattle.std.specs.Prelude.{Option, Some, None, Result, Ok, Err, not, ◌&&◌, ◌||◌}
use Rattle.mq_calls.specs.declared.commands.ScRefusal.{ScRefusal}
use Rattle.mq_calls.specs.declared.commands.ScRefusal.TheVariants as refusals
use Rattle.mq_calls.specs.declared.commands.Shown.{Shown}
use Rattle.mq_calls.specs.Words.{Command, Definitions, Object, Plain, Step, Refuse, Do, is_up, tested, when}
use Rattle.mq_objects.specs.declared.change.ObjectChange.TheVariants as changes
use Rattle.mq_objects.specs.declared.command.Command.TheVariants as commands
use Rattle.mq_objects.specs.declared.command.Alter.{Alter}
use Rattle.mq_objects.specs.declared.command.Define.{Define}
use Rattle.mq_objects.specs.declared.command.Delete.{Delete}
use Rattle.mq_objects.specs.declared.command.Display.{Display}
use Rattle.mq_objects.specs.declared.command.Subjects.{Subjects}
use Rattle.mq_objects.specs.declared.command.Subjects.TheVariants as shows
use Rattle.mq_objects.specs.declared.object.ManagerAttributes.{ManagerAttributes}
use Rattle.mq_objects.specs.declared.setting.Keyword.{Keyword}
use Rattle.mq_objects.specs.Names.{is_kind}
use Rattle.mq_objects.specs.Settings.{set_all}
use Rattle.mq_resolve.specs.Resolved.{Row, first_row, row}
use Rattle.mq_sc_apply.specs.declared.answers.Plan.{Plan}
use Rattle.mq_sc_apply.specs.declared.answers.Plan.TheVariants as plans
use Rattle.mq_sc_apply.specs.declared.answers.Planned.{Planned}
use Rattle.mq_sc_apply.specs.Commands.{plan, to_change, to_show}
use Rattle.mq_sc_apply.specs.Displayed.{display_of, lines_found}
use Rattle.mq_sc_apply.specs.Planned.{alter_at, alter_attributes, alter_good, bad_in, changed, changes_rows, default_changes, define_at, delete_at, is_busy, is_filled, is_on_path, is_sent_from, is_used, leads_elsewhere, set_planned, switches_on}
use Rattle.mq_sc_apply.specs.Uses.{Uses}
use Rattle.mq_spec_manager.specs.Commands.{command, planned_step, uses_of}

abbrev pub ScStored : ScRefusal → Type 0
ScStored refusals.Disk = ⊥
ScStored _ = Unit {0}

abbrev AnswerStored : {T : Type 0} → Result T ScRefusal → Type 0
AnswerStored (Ok value) = Unit {0}
AnswerStored (Err refusal) = ScStored refusal

abbrev pub StepStored : Step ScRefusal Shown → Type 0
StepStored (Refuse refusal) = ScStored refusal
StepStored (Do shown parts) = Unit {0}

-- the first row that applies
row_stored : {T : Type 0} (b : Bool) (x : ScRefusal) (rest : List (Row (Result T ScRefusal))) (other : Result T ScRefusal) → ScStored x → AnswerStored (first_row rest other) → AnswerStored (first_row (row b (Err x) ∷ rest) other)
row_stored true x rest other s o = s
row_stored false x rest other s o = o

changed_stored : (force : Bool) (old new : Object) (on : Bool) (u : Uses) → AnswerStored (changed force old new on u)
changed_stored force old new on u =
    row_stored (is_used force old new u) refusals.InUse (row (changes_rows old new && is_filled old u) (Err refusals.NotEmpty) ∷ []) (Ok (set_planned new (leads_elsewhere old new) on)) tt
    (row_stored (changes_rows old new && is_filled old u) refusals.NotEmpty [] (Ok (set_planned new (leads_elsewhere old new) on)) tt tt)

define_stored : (d : Define) (new : Object) (o : Option Object) (u : Uses) → AnswerStored (define_at d new o u)
define_stored d new None u = tt
define_stored d new (Some old) u = row_stored (not d.replace || not (is_kind d.subject old)) refusals.Exists [] (changed false old new false u) tt (changed_stored false old new false u)

good_stored : (k : Option Keyword) (a : Alter) (old : Object) (u : Uses) → AnswerStored (alter_good k a old u)
good_stored (Some keyword) a old u = tt
good_stored None a old u = changed_stored a.force old (set_all a.settings old) (switches_on old a.settings) u

alter_stored : (a : Alter) (o : Option Object) (u : Uses) → AnswerStored (alter_at a o u)
alter_stored a None u = tt
alter_stored a (Some old) u = row_stored (not (is_kind a.subject old)) refusals.Missing [] (alter_good (bad_in old a.settings) a old u) tt (good_stored (bad_in old a.settings) a old u)

manager_stored : (force : Bool) (old new : ManagerAttributes) (u : Uses) → AnswerStored (alter_attributes force old new u)
manager_stored force old new u = row_stored (not force && default_changes old new && u.defxmitq_on_path) refusals.InUse [] _ tt tt

three_stored : (a b c : Bool) (p : Planned) → AnswerStored (first_row (row a (Err refusals.Missing) ∷ row b (Err refusals.InUse) ∷ row c (Err refusals.NotEmpty) ∷ []) (Ok p))
three_stored true b c p = tt
three_stored false true c p = tt
three_stored false false true p = tt
three_stored false false false p = tt

delete_stored : (d : Delete) (o : Option Object) (u : Uses) → AnswerStored (delete_at d o u)
delete_stored d None u = tt
delete_stored d (Some old) u =
    three_stored (not (is_kind d.subject old)) (is_on_path old u || is_sent_from old u || is_busy old u) (is_filled old u) (record { change = changes.Delete d.subject; reroutes = false; switches_on = false })

lines_stored : (any : Bool) (lines : List (List ℕ)) → AnswerStored (lines_found any lines)
lines_stored true [] = tt
lines_stored false [] = tt
lines_stored any (line ∷ lines) = tt

display_stored : (s : Subjects) (d : Display) (own : List ℕ) (defs : Definitions) (u : Uses) → AnswerStored (display_of s d own defs u)
display_stored shows.Manager d own defs u = tt
display_stored shows.Locals d own defs u = lines_stored d.any_end _
display_stored shows.Aliases d own defs u = lines_stored d.any_end _
display_stored shows.Remotes d own defs u = lines_stored d.any_end _
display_stored shows.Queues d own defs u = lines_stored d.any_end _
display_stored shows.Channels d own defs u = lines_stored d.any_end _
display_stored shows.Processes d own defs u = lines_stored d.any_end _

change_stored : (r : Result Planned ScRefusal) → AnswerStored r → AnswerStored (to_change r)
change_stored (Ok planned) s = tt
change_stored (Err refusal) s = s

show_stored : (r : Result Shown ScRefusal) → AnswerStored r → AnswerStored (to_show r)
show_stored (Ok shown) s = tt
show_stored (Err refusal) s = s

plan_stored : (c : Command) (own : List ℕ) (defs : Definitions) (u : Uses) → AnswerStored (plan c own defs u)
plan_stored (commands.Define d) own defs u = change_stored _ (define_stored d _ _ u)
plan_stored (commands.Alter a) own defs u = change_stored _ (alter_stored a _ u)
plan_stored (commands.AlterManager a) own defs u = change_stored _ (manager_stored a.force defs.manager _ u)
plan_stored (commands.Delete d) own defs u = change_stored _ (delete_stored d _ u)
plan_stored (commands.Display d) own defs u = show_stored _ (display_stored d.subjects d own defs u)

planned_stored : (r : Result Plan ScRefusal) (d : Definitions) → AnswerStored r → StepStored (planned_step r d)
planned_stored (Ok (plans.Change planned)) d s = tt
planned_stored (Ok (plans.Show shown)) d s = tt
planned_stored (Err refusal) d s = s

down_stored : (b : Bool) (step : Step ScRefusal Shown) → StepStored step → StepStored (tested (when b refusals.Down ∷ []) step)
down_stored true step s = tt
down_stored false step s = s

pub command_stored : (c : Command) (p : Plain) → StepStored (command c p)
command_stored c p = down_stored (not (is_up p.running)) _ (planned_stored (plan c p.given.name p.definitions (uses_of p)) p.definitions (plan_stored c p.given.name p.definitions (uses_of p)))
