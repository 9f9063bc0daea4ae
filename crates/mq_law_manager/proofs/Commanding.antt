-- Commands on objects keep what holds of a manager's rows: a queue begins anew where none was defined, and goes without rows.
use Rattle.std.proofs.Common.{ℕ, suc, ◌≡◌, ◌+◌, Bool, true, false, List, [], ◌∷◌, ◌++◌, refl, ap, sym, subst, ◌∙◌, length, arith, inl}
use Rattle.std.specs.Prelude.{Option, Some, None, Result, Ok, Err, is_some, if◌then◌else◌, not, ◌&&◌, ◌||◌, nat_lt}
use Rattle.std.proofs.lemmas.Bool.Decides.{nat_tests}
use Rattle.mq_queue.specs.declared.row.Row.{Row}
use Rattle.mq_objects.specs.declared.object.LocalQueue.{LocalQueue}
use Rattle.mq_objects.specs.declared.object.Object.{Object}
use Rattle.mq_objects.specs.declared.object.Object.TheVariants as objects
use Rattle.mq_objects.specs.declared.setting.Keyword.{Keyword}
use Rattle.mq_objects.specs.declared.command.Subject.{Subject}
use Rattle.mq_objects.specs.declared.command.Subject.TheVariants as subjects
use Rattle.mq_objects.specs.declared.command.Command.{Command}
use Rattle.mq_objects.specs.declared.command.Command.TheVariants as commands
use Rattle.mq_objects.specs.declared.command.Define.{Define}
use Rattle.mq_objects.specs.declared.command.Alter.{Alter}
use Rattle.mq_objects.specs.declared.command.Delete.{Delete}
use Rattle.mq_objects.specs.declared.change.ObjectChange.{ObjectChange}
use Rattle.mq_objects.specs.declared.change.ObjectChange.TheVariants as changes
use Rattle.mq_objects.specs.Names.{Queues, name_of, local_of, named, object_in, is_object, is_kind}
use Rattle.mq_objects.specs.Settings.{set_all, set_all_manager}
use Rattle.mq_calls.specs.from_resolve.{PathStep}
use Rattle.mq_calls.specs.from_resolve.PathStepVariants as steps
use Rattle.mq_calls.specs.declared.commands.ScRefusal.{ScRefusal}
use Rattle.mq_calls.specs.declared.commands.ScRefusal.TheVariants as refusals
use Rattle.mq_calls.specs.declared.records.LogRecord.TheVariants as records
use Rattle.mq_spec_manager.specs.from_sc_apply.{Plan, ThePlanned as Planned}
use Rattle.mq_spec_manager.specs.from_sc_apply.PlanVariants as plans
use Rattle.mq_spec_manager.specs.from_sc_apply.Commands.{plan, to_change, to_show}
use Rattle.mq_spec_manager.specs.from_sc_apply.Displayed.{display}
use Rattle.mq_spec_manager.specs.from_sc_apply.Planned.{define, define_at, defined_object, changed, is_used, changes_rows, is_filled, alter, alter_at, alter_good, bad_in, switches_on, alter_manager, default_changes, delete, delete_at, is_on_path, is_sent_from, is_busy}
use Rattle.mq_calls.specs.declared.commands.Shown.{Shown}
use Rattle.mq_calls.specs.State.{Plain}
use Rattle.mq_calls.specs.State.Change.{ChangeObjects, Renew, DropQueue, SwitchOn, MakeStale}
use Rattle.mq_calls.specs.Reads.{puts_to, is_up}
use Rattle.mq_calls.specs.Changes.{apply, apply_all}
use Rattle.mq_calls.specs.Steps.{when, logged}
use Rattle.mq_spec_manager.specs.Commands.{command, planned_step, uses_of, follows, renewed, renewed_if, stale_if, switched_if, dropped}
use Rattle.mq_law_manager.specs.View.{View, view}
use Rattle.mq_law_manager.specs.Facts.{Mem, Sound, Holds, AreDefined}
use Rattle.mq_law_manager.specs.Kept.{Keeps}
use Rattle.mq_law_manager.proofs.Lists.{bool_case, name_yes}
use Rattle.mq_law_manager.proofs.SeenLaws.{applied}
use Rattle.mq_law_manager.proofs.Steps.{empties}
use Rattle.mq_law_manager.proofs.Units.{behind, tested_keeps}

no_rows : (rows : List Row) → ((h : Row) → Mem h rows → ⊥) → rows ≡ []
no_rows [] none = refl
no_rows (x ∷ xs) none = absurd (none x (inl refl))

pub no_length : (rows : List Row) (n : ℕ) → nat_lt 0 (length rows + n) ≡ false → rows ≡ []
no_length [] n e = refl
no_length (x ∷ xs) n e = absurd (cc (some (length xs) n, e))
  where
    some : (k n : ℕ) → nat_lt 0 (suc k + n) ≡ true
    some k n = grind (arith, nat_tests)

-- a deleted local queue has no rows
abbrev pub IsEmptied : ObjectChange → Plain → Type 0
IsEmptied (changes.Set new) p = Unit {0}
IsEmptied (changes.SetManager m) p = Unit {0}
IsEmptied (changes.Delete (subjects.Local name)) p = (view p).rows name ≡ []
IsEmptied (changes.Delete (subjects.Alias name)) p = Unit {0}
IsEmptied (changes.Delete (subjects.Remote name)) p = Unit {0}
IsEmptied (changes.Delete (subjects.Channel name)) p = Unit {0}
IsEmptied (changes.Delete (subjects.Process name)) p = Unit {0}

abbrev pub IsPlanned : Plain → Result Planned ScRefusal → Type 0
IsPlanned p (Ok planned) = IsEmptied planned.change p
IsPlanned p (Err refusal) = Unit {0}

row_planned : (p : Plain) (b : Bool) (e : ScRefusal) (rest : Result Planned ScRefusal) → (b ≡ false → IsPlanned p rest) → IsPlanned p (if b then Err e else rest)
row_planned p b e rest k = bool_case b (λ t. b ≡ t → IsPlanned p (if t then Err e else rest)) (λ z w. tt) (λ z w. k w) refl

changed_planned : (p : Plain) (force : Bool) (old new : Object) (on : Bool) → IsPlanned p (changed force old new on (uses_of p))
changed_planned p force old new on = row_planned p (is_used force old new (uses_of p)) refusals.InUse _ (λ e. row_planned p (changes_rows old new && is_filled old (uses_of p)) refusals.NotEmpty _ (λ w. tt))

define_planned : (p : Plain) (d : Define) (new : Object) (o : Option Object) → IsPlanned p (define_at d new o (uses_of p))
define_planned p d new None = tt
define_planned p d new (Some old) = row_planned p (not d.replace || not (is_kind d.subject old)) refusals.Exists (changed false old new false (uses_of p)) (λ e. changed_planned p false old new false)

good_planned : (p : Plain) (a : Alter) (old : Object) (o : Option Keyword) → IsPlanned p (alter_good o a old (uses_of p))
good_planned p a old (Some keyword) = tt
good_planned p a old None = changed_planned p a.force old (set_all a.settings old) (switches_on old a.settings)

alter_planned : (p : Plain) (a : Alter) (o : Option Object) → IsPlanned p (alter_at a o (uses_of p))
alter_planned p a None = tt
alter_planned p a (Some old) = row_planned p (not (is_kind a.subject old)) refusals.Missing (alter_good (bad_in old a.settings) a old (uses_of p)) (λ e. good_planned p a old (bad_in old a.settings))

-- the object of a name has it
pub object_name : (name : List ℕ) (os : List Object) (old : Object) → object_in Queues name os ≡ Some old → name_of old ≡ name
object_name name [] old e = absurd cc
object_name name (o ∷ os) old e = bool_case (is_object Queues name o) (λ b. is_object Queues name o ≡ b → (if b then Some o else object_in Queues name os) ≡ Some old → name_of old ≡ name)
    (λ z w f. let is : o ≡ old = cc f in ap name_of (sym is) ∙ sym (at o w)) (λ z w f. object_name name os old f) refl e
  where
    at : (o : Object) → is_object Queues name o ≡ true → name ≡ name_of o
    at (objects.Local q) w = name_yes name q.name w
    at (objects.Alias q) w = name_yes name q.name w
    at (objects.Remote q) w = name_yes name q.name w
    at (objects.Channel q) w = absurd cc
    at (objects.Process q) w = absurd cc

local_empty : (p : Plain) (name : List ℕ) (old : Object) → named (subjects.Local name) p.definitions ≡ Some old → not (is_kind (subjects.Local name) old) ≡ false → is_filled old (uses_of p) ≡ false → (view p).rows name ≡ []
local_empty p name (objects.Local q) e k f = subst (λ (n : List ℕ). (view p).rows n ≡ []) (object_name name p.definitions.objects (objects.Local q) e) (no_length ((view p).rows q.name) (puts_to q.name p.connections) f)
local_empty p name (objects.Alias q) e k f = absurd cc
local_empty p name (objects.Remote q) e k f = absurd cc
local_empty p name (objects.Channel q) e k f = absurd cc
local_empty p name (objects.Process q) e k f = absurd cc

deleted_empty : (p : Plain) (s : Subject) (old : Object) → named s p.definitions ≡ Some old → not (is_kind s old) ≡ false → is_filled old (uses_of p) ≡ false → IsEmptied (changes.Delete s) p
deleted_empty p (subjects.Local name) old e k f = local_empty p name old e k f
deleted_empty p (subjects.Alias name) old e k f = tt
deleted_empty p (subjects.Remote name) old e k f = tt
deleted_empty p (subjects.Channel name) old e k f = tt
deleted_empty p (subjects.Process name) old e k f = tt

delete_planned : (p : Plain) (d : Delete) (o : Option Object) → named d.subject p.definitions ≡ o → IsPlanned p (delete_at d o (uses_of p))
delete_planned p d None e = tt
delete_planned p d (Some old) e = row_planned p (not (is_kind d.subject old)) refusals.Missing _ (λ k. row_planned p (is_on_path old (uses_of p) || is_sent_from old (uses_of p) || is_busy old (uses_of p)) refusals.InUse _
    (λ n. row_planned p (is_filled old (uses_of p)) refusals.NotEmpty _ (λ f. deleted_empty p d.subject old e k f)))

abbrev pub IsPlan : Plain → Result Plan ScRefusal → Type 0
IsPlan p (Ok (plans.Change planned)) = IsEmptied planned.change p
IsPlan p (Ok (plans.Show shown)) = Unit {0}
IsPlan p (Err refusal) = Unit {0}

to_planned : (p : Plain) (r : Result Planned ScRefusal) → IsPlanned p r → IsPlan p (to_change r)
to_planned p (Ok planned) h = h
to_planned p (Err refusal) h = tt

to_shown : (p : Plain) (r : Result Shown ScRefusal) → IsPlan p (to_show r)
to_shown p (Ok shown) = tt
to_shown p (Err refusal) = tt

pub plan_is : (c : Command) (p : Plain) → IsPlan p (plan c p.given.name p.definitions (uses_of p))
plan_is (commands.Define d) p = to_planned p (define d p.definitions (uses_of p)) (define_planned p d (defined_object d.subject d.settings) (named d.subject p.definitions))
plan_is (commands.Alter a) p = to_planned p (alter a p.definitions (uses_of p)) (alter_planned p a (named a.subject p.definitions))
plan_is (commands.AlterManager a) p = to_planned p (alter_manager a p.definitions (uses_of p)) (row_planned p (not a.force && default_changes p.definitions.manager (set_all_manager a.settings p.definitions.manager) && (uses_of p).defxmitq_on_path) refusals.InUse _ (λ e. tt))
plan_is (commands.Delete d) p = to_planned p (delete d p.definitions (uses_of p)) (delete_planned p d (named d.subject p.definitions) refl)
plan_is (commands.Display d) p = to_shown p (display d p.given.name p.definitions (uses_of p))

-- What follows a change of objects

sound_stale : (b : Bool) (step : PathStep) (p : Plain) → Sound p → Sound (apply_all (stale_if b step) p)
sound_stale true step p h = subst Holds (sym (applied (MakeStale step) p tt)) h
sound_stale false step p h = h

sound_switched : (b : Bool) (name : List ℕ) (p : Plain) → Sound p → Sound (apply_all (switched_if b name) p)
sound_switched true name p h = subst Holds (sym (applied (SwitchOn name) p tt)) h
sound_switched false name p h = h

-- no row stands where no local queue is defined
pub undefined_empty : (p : Plain) (name : List ℕ) → AreDefined p → local_of name p.definitions ≡ None → (view p).rows name ≡ []
undefined_empty p name d e = no_rows ((view p).rows name) (λ h m. cc (d name h m, ap (λ (o : Option LocalQueue). is_some o) e))

sound_renewed_if : (o : Option LocalQueue) (name : List ℕ) (p : Plain) → Sound p → (o ≡ None → (view p).rows name ≡ []) → Sound (apply_all (renewed_if o name) p)
sound_renewed_if None name p h none = subst Holds (sym (applied (Renew name) p tt)) (empties (view p) name h (none refl))
sound_renewed_if (Some q) name p h none = h

-- (the queue is looked for among the definitions before the change)
sound_renewed : (new : Object) (p q : Plain) → Sound q → AreDefined p → view q ≡ view p → Sound (apply_all (renewed new p.definitions) q)
sound_renewed (objects.Local l) p q h d same = sound_renewed_if (local_of l.name p.definitions) l.name q h (λ e. ap (λ (v : View). v.rows l.name) same ∙ undefined_empty p l.name d e)
sound_renewed (objects.Alias l) p q h d same = h
sound_renewed (objects.Remote l) p q h d same = h
sound_renewed (objects.Channel l) p q h d same = h
sound_renewed (objects.Process l) p q h d same = h

sound_dropped : (s : Subject) (p q : Plain) → Sound q → IsEmptied (changes.Delete s) p → view q ≡ view p → Sound (apply_all (dropped s) q)
sound_dropped (subjects.Local name) p q h e same = subst Holds (sym (applied (DropQueue name) q tt)) (empties (view q) name h (ap (λ (v : View). v.rows name) same ∙ e))
sound_dropped (subjects.Alias name) p q h e same = h
sound_dropped (subjects.Remote name) p q h e same = h
sound_dropped (subjects.Channel name) p q h e same = h
sound_dropped (subjects.Process name) p q h e same = h

sound_follows : (change : ObjectChange) (planned : Planned) (p q : Plain) → Sound q → AreDefined p → IsEmptied change p → view q ≡ view p → Sound (apply_all (follows change planned p.definitions) q)
sound_follows (changes.Set new) planned p q h d e same =
    let a : Plain = apply_all (renewed new p.definitions) q in
    let b : Plain = apply_all (stale_if planned.reroutes (steps.Queue (name_of new))) a in
    subst Sound (sym (behind (renewed new p.definitions ++ stale_if planned.reroutes (steps.Queue (name_of new))) (switched_if planned.switches_on (name_of new)) q
    ∙ ap (apply_all (switched_if planned.switches_on (name_of new))) (behind (renewed new p.definitions) (stale_if planned.reroutes (steps.Queue (name_of new))) q)))
    (sound_switched planned.switches_on (name_of new) b (sound_stale planned.reroutes (steps.Queue (name_of new)) a (sound_renewed new p q h d same)))
sound_follows (changes.SetManager m) planned p q h d e same = sound_stale planned.reroutes steps.DefXmitq q h
sound_follows (changes.Delete subject) planned p q h d e same = sound_dropped subject p q h e same

planned_keeps : (r : Result Plan ScRefusal) (p : Plain) → IsPlan p r → AreDefined p → Sound p → Keeps (planned_step r p.definitions) p
planned_keeps (Ok (plans.Change planned)) p e d h = (sound_follows planned.change planned p (apply (ChangeObjects planned.change) (logged (Some (records.Objects planned.change)) p)) h d e refl, tt)
planned_keeps (Ok (plans.Show shown)) p e d h = tt
planned_keeps (Err refusal) p e d h = tt

pub command_keeps : (c : Command) (p : Plain) → AreDefined p → Sound p → Keeps (command c p) p
command_keeps c p d h = tested_keeps (when (not (is_up p.running)) refusals.Down ∷ []) (planned_step (plan c p.given.name p.definitions (uses_of p)) p.definitions) p
    (λ e. planned_keeps (plan c p.given.name p.definitions (uses_of p)) p (plan_is c p) d h)
