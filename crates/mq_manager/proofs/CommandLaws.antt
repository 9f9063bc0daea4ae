-- A command that fits leaves MAXMSGL of the manager within what a record keeps.
use Rattle.std.proofs.Common.{◌≡◌, ◌≤◌, ℕ, Bool, true, false, List, [], ◌∷◌, refl, ap, sym, subst}
use Rattle.std.specs.Prelude.{Option, Some, None, Result, Ok, Err, not, ◌&&◌, ◌++◌}
use Rattle.std.specs.List.{list_all}
use Rattle.std.proofs.lemmas.Bool.{leb-true}
use Rattle.mq_objects.specs.declared.object.Object.{Object}
use Rattle.mq_objects.specs.declared.object.Object.TheVariants as objects
use Rattle.mq_objects.specs.declared.object.ManagerAttributes.{ManagerAttributes}
use Rattle.mq_objects.specs.declared.object.Definitions.{Definitions}
use Rattle.mq_objects.specs.declared.setting.Setting.{Setting}
use Rattle.mq_objects.specs.declared.setting.Setting.TheVariants as settings
use Rattle.mq_objects.specs.declared.change.ObjectChange.{ObjectChange}
use Rattle.mq_objects.specs.declared.change.ObjectChange.TheVariants as changes
use Rattle.mq_objects.specs.declared.command.Subject.{Subject}
use Rattle.mq_objects.specs.declared.command.Subject.TheVariants as subjects
use Rattle.mq_objects.specs.declared.command.Command.{Command}
use Rattle.mq_objects.specs.Names.{name_of, local_of}
use Rattle.mq_objects.specs.Changed.{changed as changed_by}
use Rattle.mq_objects.specs.Settings.{set_manager, set_all_manager}
use Rattle.mq_resolve.specs.declared.route.PathStep.{PathStep}
use Rattle.mq_resolve.specs.declared.route.PathStep.TheVariants as steps
use Rattle.mq_calls.specs.declared.commands.ScRefusal.{ScRefusal}
use Rattle.mq_calls.specs.declared.commands.ScRefusal.TheVariants as refusals
use Rattle.mq_calls.specs.declared.commands.Shown.{Shown}
use Rattle.mq_calls.specs.declared.commands.Halt.TheVariants as halts
use Rattle.mq_calls.specs.declared.records.LogRecord.TheVariants as records
use Rattle.mq_sc_apply.specs.Uses.{Uses}
use Rattle.mq_sc_apply.specs.declared.answers.Planned.{Planned}
use Rattle.mq_sc_apply.specs.declared.answers.Plan.{Plan}
use Rattle.mq_sc_apply.specs.declared.answers.Plan.TheVariants as plans
use Rattle.mq_sc_apply.specs.Commands.{plan}
use Rattle.mq_calls.specs.Words.{Plain, MeetsOrWants, LocalQueue, is_up, apply, logged, when, tested}
use Rattle.mq_calls.specs.declared.commands.Halt.{Halt}
use Rattle.mq_calls.specs.Meeting.Wants.{Anywhere}
use Rattle.mq_calls.specs.State.Change.{ChangeObjects}
use Rattle.mq_spec_manager.specs.Commands.{command, planned_step, uses_of, follows, renewed, renewed_if, stale_if, switched_if, dropped}
use Rattle.mq_law_manager.specs.Kept.{StepKeeps}
use Rattle.mq_law_manager.proofs.Lists.{bool_case}
use Rattle.mq_law_manager.proofs.Ending.{joined}
use Rattle.mq_law_manager.proofs.Planning.{EachChange, PlanHas, plan_has}
use Rattle.mq_law_manager.proofs.Commanding.{command_keeps}
use Rattle.mq_law_manager.proofs.StockCommands.{command_stocked}
use Rattle.mq_law_manager.proofs.Stocks.{tested_on}
use Rattle.mq_receive.specs.from_core.Values.{CoreValue, WritesLog, begun_call, manager_of}
use Rattle.mq_steer.proofs.PlanLaws.{meets_halt, told_halt}
use Rattle.mq_manager.specs.Facts.{HasLimit, IsWell}
use Rattle.mq_manager.specs.Limits.{setting_fits, fits}
use Rattle.mq_manager.proofs.LimitLaws.{IsSteady, AllSteady, steady_all, steady_append, none_steady}
use Rattle.mq_manager.proofs.WellLaws.{Idles, well_after}

-- settings, one by one
fits_one : (s : Setting) (m : ManagerAttributes) → setting_fits s ≡ true → m.max_message_length ≤ 4194304 → (set_manager s m).max_message_length ≤ 4194304
fits_one (settings.MaxMessageLength n) m f h = leb-true n 4194304 f
fits_one _ m f h = h

fits_all : (ss : List Setting) (m : ManagerAttributes) → list_all setting_fits ss ≡ true → m.max_message_length ≤ 4194304 → (set_all_manager ss m).max_message_length ≤ 4194304
fits_all [] m f h = h
fits_all (s ∷ ss) m f h = bool_case (setting_fits s) (λ b. setting_fits s ≡ b → (b && list_all setting_fits ss) ≡ true → (set_all_manager ss (set_manager s m)).max_message_length ≤ 4194304)
    (λ z e g. fits_all ss (set_manager s m) g (fits_one s m e h)) (λ z e g. absurd cc) refl f

-- what is planned
ChangeFits : ObjectChange → Type 0
ChangeFits (changes.Set new) = Unit {0}
ChangeFits (changes.SetManager m) = m.max_message_length ≤ 4194304
ChangeFits (changes.Delete s) = Unit {0}

abbrev FitsSo : ObjectChange → Bool → Bool → Type 0
FitsSo change reroutes on = ChangeFits change

abbrev PlanFits : Result Plan ScRefusal → Type 0
PlanFits r = PlanHas FitsSo r

each_fits : (c : Command) (d : Definitions) (u : Uses) → fits c ≡ true → d.manager.max_message_length ≤ 4194304 → EachChange FitsSo c d u
unfolding ChangeFits
each_fits c d u f h = record {
  fresh = λ new none. tt;
  over = λ old new on is. tt;
  manager = λ a reroutes e. fits_all a.settings d.manager (subst (λ (x : Command). fits x ≡ true) e f) h;
  gone = λ s old is. tt;
}

plan_fits : (c : Command) (own : List ℕ) (d : Definitions) (u : Uses) → fits c ≡ true → d.manager.max_message_length ≤ 4194304 → PlanFits (plan c own d u)
plan_fits c own d u f h = plan_has FitsSo c own d u (each_fits c d u f h)

-- what follows a change of objects is none
stale_steady : (b : Bool) (step : PathStep) → AllSteady (stale_if b step)
unfolding AllSteady IsSteady
stale_steady true step = (tt, tt)
stale_steady false step = tt

switched_steady : (b : Bool) (name : List ℕ) → AllSteady (switched_if b name)
unfolding AllSteady IsSteady
switched_steady true name = (tt, tt)
switched_steady false name = tt

renewed_steady : (o : Option LocalQueue) (name : List ℕ) → AllSteady (renewed_if o name)
unfolding AllSteady IsSteady
renewed_steady None name = (tt, tt)
renewed_steady (Some q) name = tt

new_steady : (new : Object) (d : Definitions) → AllSteady (renewed new d)
new_steady (objects.Local q) d = renewed_steady (local_of q.name d) q.name
new_steady (objects.Alias q) d = none_steady
new_steady (objects.Remote q) d = none_steady
new_steady (objects.Channel q) d = none_steady
new_steady (objects.Process q) d = none_steady

dropped_steady : (s : Subject) → AllSteady (dropped s)
unfolding AllSteady IsSteady
dropped_steady (subjects.Local name) = (tt, tt)
dropped_steady (subjects.Alias name) = tt
dropped_steady (subjects.Remote name) = tt
dropped_steady (subjects.Channel name) = tt
dropped_steady (subjects.Process name) = tt

follows_steady : (change : ObjectChange) (planned : Planned) (d : Definitions) → AllSteady (follows change planned d)
follows_steady (changes.Set new) planned d =
    steady_append (renewed new d ++ stale_if planned.reroutes (steps.Queue (name_of new))) (switched_if planned.switches_on (name_of new))
    (steady_append (renewed new d) (stale_if planned.reroutes (steps.Queue (name_of new))) (new_steady new d) (stale_steady planned.reroutes (steps.Queue (name_of new)))) (switched_steady planned.switches_on (name_of new))
follows_steady (changes.SetManager m) planned d = stale_steady planned.reroutes steps.DefXmitq
follows_steady (changes.Delete s) planned d = dropped_steady s

changed_limit : (change : ObjectChange) (d : Definitions) → ChangeFits change → d.manager.max_message_length ≤ 4194304 → (changed_by change d).manager.max_message_length ≤ 4194304
unfolding ChangeFits
changed_limit (changes.Set new) d f h = h
changed_limit (changes.SetManager m) d f h = f
changed_limit (changes.Delete s) d f h = h

planned_limit : (r : Result Plan ScRefusal) (p : Plain) → PlanFits r → HasLimit p → StepKeeps HasLimit (planned_step r p.definitions) p
planned_limit (Ok (plans.Change planned)) p f h =
    let q : Plain = apply (ChangeObjects planned.change) (logged (Some (records.Objects planned.change)) p) in (
      subst (λ (d : Definitions). d.manager.max_message_length ≤ 4194304) (sym (steady_all (follows planned.change planned p.definitions) q (follows_steady planned.change planned p.definitions)))
          (changed_limit planned.change p.definitions f h),
      tt,
    )
planned_limit (Ok (plans.Show shown)) p f h = tt
planned_limit (Err refusal) p f h = tt

command_limit : (c : Command) (p : Plain) → fits c ≡ true → HasLimit p → StepKeeps HasLimit (command c p) p
command_limit c p f h = tested_on HasLimit (when (not (is_up p.running)) refusals.Down ∷ []) (planned_step (plan c p.given.name p.definitions (uses_of p)) p.definitions) p
    (λ e. planned_limit (plan c p.given.name p.definitions (uses_of p)) p (plan_fits c p.given.name p.definitions (uses_of p) f h) h)

pub command_down : (c : Command) (p : Plain) → is_up p.running ≡ false → Idles (command c p)
command_down c p down = subst (λ (b : Bool). Idles (tested (when (not b) refusals.Down ∷ []) (planned_step (plan c p.given.name p.definitions (uses_of p)) p.definitions))) (sym down) tt

-- want of memory in place of its answer
pub meets_want : (c : Command) (v new : CoreValue) → new ≡ begun_call v → MeetsOrWants (manager_of v) (command c v.plain) (Err halts.NoMemory) (manager_of new)
meets_want c v new e = meets_halt c v new halts.NoMemory tt e

pub told_want : (c : Command) (v new : CoreValue) → new ≡ begun_call v → WritesLog v (command c v.plain) (Err halts.NoMemory) new
told_want c v new e = told_halt c v new halts.NoMemory tt e

-- the call
pub well_command : (v new : CoreValue) (w : IsWell v.plain) (c : Command) (result : Result Shown (Halt ScRefusal)) → (fits c ≡ false → new ≡ begun_call v) → MeetsOrWants (manager_of v) (command c v.plain) result (manager_of new) → IsWell new.plain
well_command v new w c result unfit m = by (fits c) refl
  where
    by : (b : Bool) → fits c ≡ b → IsWell new.plain
    by true f = let p : Plain = v.plain in
        well_after Anywhere (manager_of v) (manager_of new) (command c p) result m w (command_down c p)
        (λ h. joined (command c p) p h (command_keeps c p h.stocked.rows h.facts) (command_stocked c p h.stocked)) (command_limit c p f w.limit)
    by false f = subst IsWell (sym (ap (λ (x : CoreValue). x.plain) (unfit f))) w
