-- What a plan of a command keeps to, and how a command meets it.
use Rattle.std.proofs.Common.{◌≡◌, Bool, true, false, [], ◌∷◌, refl, ap, sym, subst, ◌∙◌, arith}
use Rattle.std.specs.Prelude.{Option, Some, None, Result, Ok, Err, is_some, not}
use Rattle.mq_objects.specs.declared.object.Channel.{Channel}
use Rattle.mq_objects.specs.declared.object.Process.{Process}
use Rattle.mq_objects.specs.declared.object.Object.{Object}
use Rattle.mq_objects.specs.declared.object.Object.TheVariants as objects
use Rattle.mq_objects.specs.declared.command.Command.{Command}
use Rattle.mq_objects.specs.declared.change.ObjectChange.{ObjectChange}
use Rattle.mq_objects.specs.Names.{as_local}
use Rattle.mq_calls.specs.declared.commands.ScRefusal.{ScRefusal}
use Rattle.mq_calls.specs.declared.commands.ScRefusal.TheVariants as refusals
use Rattle.mq_calls.specs.declared.commands.Shown.{Shown}
use Rattle.mq_calls.specs.declared.commands.Halt.TheVariants as halts
use Rattle.mq_sc_apply.specs.declared.answers.Plan.{Plan}
use Rattle.mq_sc_apply.specs.declared.answers.Plan.TheVariants as plans
use Rattle.mq_sc_apply.specs.Commands.{plan, Gives}
use Rattle.mq_sc_apply.specs.Planned.{leads_elsewhere}
use Rattle.mq_calls.specs.Words.{Plain, Step, Refuse, Do, say, MeetsOrWants, is_up, when, tested}
use Rattle.mq_calls.specs.declared.commands.Halt.{Halt}
use Rattle.mq_spec_manager.specs.Commands.{command, planned_step, uses_of}
use Rattle.mq_law_manager.specs.Facts.{is_local}
use Rattle.mq_law_manager.proofs.Planning.{EachChange, PlanHas, object_at, object_or, plan_has}
use Rattle.mq_core.specs.Values.{CoreValue, WritesLog, begun_call, manager_of}
use Rattle.mq_steer.specs.Altered.{IsOver, IsMarked, CanChange, PlansErr, Plans, halt_of}

true_false : true ≡ false → ⊥
true_false e = absurd cc

-- marks of a change
not_on : (on : Bool) (old : Object) → (on ≡ true → is_local old ≡ true) → is_local old ≡ false → on ≡ false
not_on true old f e = absurd (true_false (sym (f refl) ∙ e))
not_on false old f e = refl

leads_channel : (old : Object) (c : Channel) → leads_elsewhere old (objects.Channel c) ≡ false
leads_channel (objects.Local q) c = refl
leads_channel (objects.Alias q) c = refl
leads_channel (objects.Remote q) c = refl
leads_channel (objects.Channel q) c = refl
leads_channel (objects.Process q) c = refl

leads_process : (old : Object) (c : Process) → leads_elsewhere old (objects.Process c) ≡ false
leads_process (objects.Local q) c = refl
leads_process (objects.Alias q) c = refl
leads_process (objects.Remote q) c = refl
leads_process (objects.Channel q) c = refl
leads_process (objects.Process q) c = refl

some_there : (old : Object) → is_local old ≡ true → is_some (as_local (Some old)) ≡ true
some_there (objects.Local q) e = refl
some_there (objects.Alias q) e = absurd cc
some_there (objects.Remote q) e = absurd cc
some_there (objects.Channel q) e = absurd cc
some_there (objects.Process q) e = absurd cc

marked : (p : Plain) (old new : Object) (on : Bool) → is_local new ≡ is_local old → object_at new p.definitions ≡ Some old → (on ≡ true → is_local old ≡ true) → IsMarked new (leads_elsewhere old new) on p
marked p old (objects.Local q) on kind found local = λ s. ap (λ (o : Option Object). is_some (as_local o)) found ∙ some_there old (sym kind)
marked p old (objects.Alias q) on kind found local = not_on on old local (sym kind)
marked p old (objects.Remote q) on kind found local = not_on on old local (sym kind)
marked p old (objects.Channel c) on kind found local = (leads_channel old c, not_on on old local (sym kind))
marked p old (objects.Process c) on kind found local = (leads_process old c, not_on on old local (sym kind))

unmarked : (p : Plain) (new : Object) → IsMarked new false false p
unmarked p (objects.Local q) = λ s. absurd cc
unmarked p (objects.Alias q) = refl
unmarked p (objects.Remote q) = refl
unmarked p (objects.Channel c) = (refl, refl)
unmarked p (objects.Process c) = (refl, refl)

-- of each change that a command plans
abbrev CanSo : Plain → ObjectChange → Bool → Bool → Type 0
CanSo p change reroutes on = CanChange change reroutes on p

abbrev AllCan : Plain → Result Plan ScRefusal → Type 0
AllCan p r = PlanHas (CanSo p) r

each_can : (c : Command) (p : Plain) → EachChange (CanSo p) c p.definitions (uses_of p)
each_can c p = record {
  fresh = λ new none. record { over = λ x f. absurd (cc (none, f)); marked = unmarked p new };
  over = λ old new on h. record {
    over = λ x f. subst (λ (o : Object). IsOver o new p) (ap (object_or old) (sym h.found ∙ f)) (record { kind = h.kind; filled = h.filled });
    marked = marked p old new on h.kind h.found h.local;
  };
  manager = λ a reroutes e. tt;
  gone = λ s old h. record { old = old; found = h.found; kind = h.kind; filled = h.filled };
}

plan_can : (c : Command) (p : Plain) → AllCan p (plan c p.given.name p.definitions (uses_of p))
plan_can c p = plan_has (CanSo p) c p.given.name p.definitions (uses_of p) (each_can c p)

-- ---- a command at a manager that is up

abbrev plan_at : Command → Plain → Result Plan ScRefusal
plan_at c p = plan c p.given.name p.definitions (uses_of p)

command_is : (c : Command) (p : Plain) → is_up p.running ≡ true → command c p ≡ planned_step (plan_at c p) p.definitions
command_is c p up = λ i. tested (when (not (up i)) refusals.Down ∷ []) (planned_step (plan_at c p) p.definitions)

pub plans_ok : (c : Command) (p : Plain) (q : Plan) → is_up p.running ≡ true → Gives (Ok q) (plan c p.given.name p.definitions (uses_of p)) → Plans c p (Ok q)
plans_ok c p (plans.Change planned) up e = (command_is c p up ∙ ap (λ (r : Result Plan ScRefusal). planned_step r p.definitions) (sym e), subst (AllCan p) (sym e) (plan_can c p))
plans_ok c p (plans.Show shown) up e = command_is c p up ∙ ap (λ (r : Result Plan ScRefusal). planned_step r p.definitions) (sym e)

plans_refuse : (c : Command) (p : Plain) (r : ScRefusal) → is_up p.running ≡ true → Err r ≡ plan_at c p → command c p ≡ Refuse r
plans_refuse c p r up e = command_is c p up ∙ ap (λ (r : Result Plan ScRefusal). planned_step r p.definitions) (sym e)

pub plans_err : (c : Command) (p : Plain) (r : ScRefusal) → is_up p.running ≡ true → Gives {T = Plan} (Err r) (plan c p.given.name p.definitions (uses_of p)) → Plans c p (Err (halt_of r))
plans_err c p refusals.NoMemory up e = tt
plans_err c p refusals.Down up e = plans_refuse c p refusals.Down up e
plans_err c p refusals.Exists up e = plans_refuse c p refusals.Exists up e
plans_err c p refusals.Missing up e = plans_refuse c p refusals.Missing up e
plans_err c p (refusals.BadValue keyword) up e = plans_refuse c p (refusals.BadValue keyword) up e
plans_err c p refusals.InUse up e = plans_refuse c p refusals.InUse up e
plans_err c p refusals.NotEmpty up e = plans_refuse c p refusals.NotEmpty up e
plans_err c p refusals.Disk up e = plans_refuse c p refusals.Disk up e
plans_err c p refusals.Cut up e = plans_refuse c p refusals.Cut up e

-- ---- how a command that changes nothing ends

wants_any : (v new : CoreValue) (s : Step ScRefusal Shown) → new ≡ begun_call v → MeetsOrWants (manager_of v) s (Err halts.NoMemory) (manager_of new)
wants_any v new (Refuse reason) e = ap manager_of e
wants_any v new (Do reply parts) e = ap manager_of e

pub meets_halt : (c : Command) (v new : CoreValue) (h : Halt ScRefusal) → PlansErr c v.plain h → new ≡ begun_call v → MeetsOrWants (manager_of v) (command c v.plain) (Err h) (manager_of new)
meets_halt c v new (halts.Refused reason) e n = subst (λ (s : Step ScRefusal Shown). MeetsOrWants (manager_of v) s (Err (halts.Refused reason)) (manager_of new)) (sym e) (refl, ap manager_of n)
meets_halt c v new halts.NoMemory e n = wants_any v new (command c v.plain) n
meets_halt c v new (halts.Stopped by) e n = absurd e

pub meets_show : (c : Command) (v new : CoreValue) (shown : Shown) → command c v.plain ≡ say shown → new ≡ begun_call v → MeetsOrWants (manager_of v) (command c v.plain) (Ok shown) (manager_of new)
meets_show c v new shown e n = subst (λ (s : Step ScRefusal Shown). MeetsOrWants (manager_of v) s (Ok shown) (manager_of new)) (sym e)
    (refl, (λ some. some), (let faults = ap (λ (w : CoreValue). w.faults) n in omega (arith, faults)), ap manager_of n ∙ (λ i. record (manager_of v) { delta = []; stopped = None; faults = (sym (ap (λ (w : CoreValue). w.faults) n)) i }))

down_is : (c : Command) (p : Plain) → is_up p.running ≡ false → command c p ≡ Refuse refusals.Down
down_is c p down = λ i. tested (when (not (down i)) refusals.Down ∷ []) (planned_step (plan_at c p) p.definitions)

pub meets_down : (c : Command) (v new : CoreValue) → is_up v.plain.running ≡ false → new ≡ begun_call v → MeetsOrWants (manager_of v) (command c v.plain) (Err (halts.Refused refusals.Down)) (manager_of new)
meets_down c v new down n = meets_halt c v new (halts.Refused refusals.Down) (down_is c v.plain down) n

-- and nothing is written
told_any : (v new : CoreValue) (s : Step ScRefusal Shown) → new ≡ begun_call v → WritesLog v s (Err halts.NoMemory) new
told_any v new (Refuse reason) e = ap (λ (w : CoreValue). w.log) e
told_any v new (Do reply parts) e = ap (λ (w : CoreValue). w.log) e

pub told_halt : (c : Command) (v new : CoreValue) (h : Halt ScRefusal) → PlansErr c v.plain h → new ≡ begun_call v → WritesLog v (command c v.plain) (Err h) new
told_halt c v new (halts.Refused reason) e n = subst (λ (s : Step ScRefusal Shown). WritesLog v s (Err (halts.Refused reason)) new) (sym e) (ap (λ (w : CoreValue). w.log) n)
told_halt c v new halts.NoMemory e n = told_any v new (command c v.plain) n
told_halt c v new (halts.Stopped by) e n = absurd e

pub told_show : (c : Command) (v new : CoreValue) (shown : Shown) → command c v.plain ≡ say shown → new ≡ begun_call v → WritesLog v (command c v.plain) (Ok shown) new
told_show c v new shown e n = subst (λ (s : Step ScRefusal Shown). WritesLog v s (Ok shown) new) (sym e) (ap (λ (w : CoreValue). w.log) n, tt)

pub told_down : (c : Command) (v new : CoreValue) → is_up v.plain.running ≡ false → new ≡ begun_call v → WritesLog v (command c v.plain) (Err (halts.Refused refusals.Down)) new
told_down c v new down n = told_halt c v new (halts.Refused refusals.Down) (down_is c v.plain down) n
