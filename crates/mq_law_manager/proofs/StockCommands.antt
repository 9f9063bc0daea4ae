-- Rows and uncommitted puts stay on queues that are defined: by commands on objects.
use Rattle.std.proofs.Common.{ℕ, ◌≡◌, ◌+◌, Bool, true, false, List, [], ◌∷◌, ◌++◌, refl, ap, sym, subst, ◌∙◌, length, arith, inl, inr}
use Rattle.std.specs.Prelude.{Option, Some, None, Result, Ok, Err, is_some, if◌then◌else◌, not, ◌&&◌, ◌||◌, nat_lt, ◌==◌, count_by, filter, map}
use Rattle.std.specs.Str.{bytes_eq}
use Rattle.std.specs.List.{list_any}
use Rattle.std.proofs.lemmas.Bool.Decides.{nat_tests}
use Rattle.std.proofs.lemmas.List.Sums.{sum_by-cons}
use Rattle.mq_objects.specs.declared.object.LocalQueue.{LocalQueue}
use Rattle.mq_objects.specs.declared.object.Object.{Object}
use Rattle.mq_objects.specs.declared.object.Object.TheVariants as objects
use Rattle.mq_objects.specs.declared.object.Definitions.{Definitions}
use Rattle.mq_objects.specs.declared.command.Subject.{Subject}
use Rattle.mq_objects.specs.declared.command.Subject.TheVariants as subjects
use Rattle.mq_objects.specs.declared.command.Command.{Command}
use Rattle.mq_objects.specs.declared.change.ObjectChange.{ObjectChange}
use Rattle.mq_objects.specs.declared.change.ObjectChange.TheVariants as changes
use Rattle.mq_objects.specs.Names.{Space, Queues, same_space, space_of, name_of, as_local, local_of, named, object_in, is_object, is_kind, subject_space, subject_name, is_transmission, is_by_priority}
use Rattle.mq_objects.specs.Changed.{set_in}
use Rattle.mq_objects.specs.Defaults.{new_object}
use Rattle.mq_calls.specs.from_resolve.{PathStep}
use Rattle.mq_calls.specs.from_resolve.PathStepVariants as steps
use Rattle.mq_calls.specs.declared.commands.ScRefusal.{ScRefusal}
use Rattle.mq_calls.specs.declared.commands.ScRefusal.TheVariants as refusals
use Rattle.mq_calls.specs.declared.records.Add.{Add}
use Rattle.mq_calls.specs.declared.records.LogRecord.TheVariants as records
use Rattle.mq_calls.specs.declared.state.Item.{Item}
use Rattle.mq_calls.specs.declared.state.Item.TheVariants.{Put, Take}
use Rattle.mq_spec_manager.specs.from_sc_apply.{Plan, ThePlanned as Planned}
use Rattle.mq_spec_manager.specs.from_sc_apply.PlanVariants as plans
use Rattle.mq_spec_manager.specs.from_sc_apply.Commands.{plan}
use Rattle.mq_spec_manager.specs.from_sc_apply.Planned.{same_usage, same_delivery, leads_elsewhere, changes_rows, is_filled, is_on_path}
use Rattle.mq_message.specs.declared.message.Message.{Message}
use Rattle.mq_message.specs.declared.place.Holder.TheVariants as holders
use Rattle.mq_queue.specs.declared.row.Row.{Row}
use Rattle.mq_queue.specs.Lanes.{lane_at}
use Rattle.mq_objects.specs.declared.object.Usage.{Usage}
use Rattle.mq_objects.specs.declared.object.Delivery.{Delivery}
use Rattle.mq_calls.specs.State.{Plain, Queue, LogState, fresh_queue}
use Rattle.mq_calls.specs.declared.state.Connection.{Connection}
use Rattle.mq_calls.specs.declared.state.Handle.{Handle}
use Rattle.mq_calls.specs.State.Change.{MakeStale, ChangeObjects, Renew, DropQueue}
use Rattle.mq_calls.specs.Reads.{connection_at, is_up, has_rows, puts_to, is_put_to, has_step, any_handle, on_path}
use Rattle.mq_calls.specs.Changes.{apply, apply_all, set_queue, made_stale, stale_if as handle_stale}
use Rattle.mq_calls.specs.Recovery.{routes}
use Rattle.mq_spec_manager.specs.Put.{queue_at, dest_at}
use Rattle.mq_calls.specs.Steps.{when, written}
use Rattle.mq_spec_manager.specs.Commands.{command, planned_step, uses_of, follows, renewed, renewed_if, stale_if, switched_if, dropped}
use Rattle.mq_law_manager.specs.View.{View, view, puts_in, items_of}
use Rattle.mq_law_manager.specs.Facts.{Mem, IsStocked, AreOnce, is_local, has_queue, IsRoutedOn, IsFormed, IsLed, IsRouted}
use Rattle.mq_law_manager.specs.Kept.{AllAsk, StepKeeps}
use Rattle.mq_law_manager.proofs.Lists.{bool_case, is_false}
use Rattle.mq_law_manager.proofs.Named.{name_is, name_self, name_turned}
use Rattle.mq_law_manager.proofs.SeenLaws.{applied}
use Rattle.mq_law_manager.proofs.Routes.{routed_on, map_mem}
use Rattle.mq_law_manager.proofs.Shelves.{stays, all_stay, has_set, emptied}
use Rattle.mq_law_manager.proofs.Units.{behind}
use Rattle.mq_law_manager.proofs.Stocks.{tested_on}
use Rattle.mq_law_manager.proofs.Objects.{kind_local, found_object, object_is, set_found, delete_found, once_set, once_delete}
use Rattle.mq_law_manager.proofs.Planning.{EachChange, PlanHas, no_left, no_right, object_or, plan_has}
use Rattle.mq_law_manager.proofs.Commanding.{object_name}
pub use Rattle.mq_law_manager.proofs.Objects.{both as both_true}

-- What a change of objects keeps to: one that sets an object finds none of its name or one that is a local queue where it is,
-- of which it keeps the form where there are rows, and makes handles over it stale where it leads elsewhere; one that deletes
-- finds one of the kind that it names, on no handle's path; a local queue that goes has no rows and no uncommitted puts.

pub record IsOver (old new : Object) (reroutes : Bool) (p : Plain) : Type 0 where
  pub kind : is_local new ≡ is_local old
  pub filled : (changes_rows old new && is_filled old (uses_of p)) ≡ false
  pub leads : leads_elsewhere old new ≡ reroutes

abbrev pub IsSet : Object → Bool → Plain → Type 0
IsSet new reroutes p = (old : Object) → object_in (space_of new) (name_of new) p.definitions.objects ≡ Some old → IsOver old new reroutes p

pub record IsDeleted (s : Subject) (p : Plain) : Type 0 where
  pub old : Object
  pub found : named s p.definitions ≡ Some old
  pub kind : is_kind s old ≡ true
  pub filled : is_filled old (uses_of p) ≡ false
  pub path : is_on_path old (uses_of p) ≡ false

abbrev pub Fits : ObjectChange → Bool → Plain → Type 0
Fits (changes.Set new) reroutes p = IsSet new reroutes p
Fits (changes.SetManager m) reroutes p = Unit {0}
Fits (changes.Delete s) reroutes p = IsDeleted s p

-- of each change that a command plans
abbrev FitsSo : Plain → ObjectChange → Bool → Bool → Type 0
FitsSo p change reroutes on = Fits change reroutes p

abbrev AllFit : Plain → Result Plan ScRefusal → Type 0
AllFit p r = PlanHas (FitsSo p) r

each_fits : (c : Command) (p : Plain) → EachChange (FitsSo p) c p.definitions (uses_of p)
each_fits c p = record {
  fresh = λ new none old f. absurd (cc (none, f));
  over = λ old new on h x f. subst (λ (o : Object). IsOver o new (leads_elsewhere old new) p) (ap (object_or old) (sym h.found ∙ f)) (record { kind = h.kind; filled = h.filled; leads = refl });
  manager = λ a reroutes e. tt;
  gone = λ s old h. record { old = old; found = h.found; kind = h.kind; filled = h.filled; path = h.path };
}

plan_fits : (c : Command) (p : Plain) → AllFit p (plan c p.given.name p.definitions (uses_of p))
plan_fits c p = plan_has (FitsSo p) c p.given.name p.definitions (uses_of p) (each_fits c p)

-- An object is set

local_some : (o : Object) → is_local o ≡ true → is_some (as_local (Some o)) ≡ true
local_some (objects.Local q) e = refl
local_some (objects.Alias q) e = absurd cc
local_some (objects.Remote q) e = absurd cc
local_some (objects.Channel q) e = absurd cc
local_some (objects.Process q) e = absurd cc

some_local : (o : Object) → is_some (as_local (Some o)) ≡ true → is_local o ≡ true
some_local (objects.Local q) e = refl
some_local (objects.Alias q) e = absurd cc
some_local (objects.Remote q) e = absurd cc
some_local (objects.Channel q) e = absurd cc
some_local (objects.Process q) e = absurd cc

-- What of it a change keeps to, of one state: the kind; the form where there are rows or puts; the usage where a handle leads.
abbrev IsKind : Object → Plain → Type 0
IsKind new p = (old : Object) → object_in (space_of new) (name_of new) p.definitions.objects ≡ Some old → is_local new ≡ is_local old

abbrev same_form : LocalQueue → LocalQueue → Bool
same_form a b = same_usage a.usage b.usage && same_delivery a.delivery b.delivery

abbrev same_use : LocalQueue → LocalQueue → Bool
same_use a b = same_usage a.usage b.usage

-- (of a local queue that is set over one)
abbrev Over : (LocalQueue → LocalQueue → Bool) → Object → Plain → Type 0
Over same new p = (a b : LocalQueue) → object_in (space_of new) (name_of new) p.definitions.objects ≡ Some (objects.Local a) → new ≡ objects.Local b → same a b ≡ true

pub record IsChanged (new : Object) (p : Plain) : Type 0 where
  pub kind : IsKind new p
  pub rows : (h : Row) → Mem h ((view p).rows (name_of new)) → Over same_form new p
  pub puts : (n : ℕ) (a : Add) → Mem a ((view p).puts n) → a.queue ≡ name_of new → Over same_form new p
  pub led : (c : Connection) (h : Handle) → Mem c p.connections → Mem h c.handles → h.stale ≡ false → has_step (steps.Queue (name_of new)) h ≡ true → Over same_use new p

-- a local queue that was there is there still
set_keeps : (new : Object) (p : Plain) → IsKind new p → (q : List ℕ) → is_some (local_of q p.definitions) ≡ true → is_some (as_local (object_in Queues q (set_in new p.definitions.objects))) ≡ true
set_keeps new p h q e = ap (λ (o : Option Object). is_some (as_local o)) (set_found Queues q new p.definitions.objects)
    ∙ bool_case (is_object Queues q new) (λ b. is_object Queues q new ≡ b → is_some (as_local (if b then Some new else object_in Queues q p.definitions.objects)) ≡ true)
    (λ z w. let is = object_is Queues q new w in at is.0 is.1 (object_in Queues q p.definitions.objects) refl e) (λ z w. e) refl
  where
    at : Queues ≡ space_of new → q ≡ name_of new → (o : Option Object) → object_in Queues q p.definitions.objects ≡ o → is_some (as_local o) ≡ true → is_some (as_local (Some new)) ≡ true
    at space name None f k = absurd cc
    at space name (Some old) f k = local_some new (h old (ap (λ (x : Space). object_in x (name_of new) p.definitions.objects) (sym space) ∙ ap (λ (n : List ℕ). object_in Queues n p.definitions.objects) (sym name) ∙ f) ∙ some_local old k)

renews : (new : Object) (p : Plain) → is_local new ≡ true → local_of (name_of new) p.definitions ≡ None → renewed new p.definitions ≡ Renew (name_of new) ∷ []
renews (objects.Local l) p e f = ap (λ (o : Option LocalQueue). renewed_if o l.name) f
renews (objects.Alias l) p e f = absurd cc
renews (objects.Remote l) p e f = absurd cc
renews (objects.Channel l) p e f = absurd cc
renews (objects.Process l) p e f = absurd cc

renew_if_asks : (o : Option LocalQueue) (name : List ℕ) (p : Plain) → AllAsk (renewed_if o name) p
renew_if_asks None name p = (tt, tt)
renew_if_asks (Some q) name p = tt

renew_asks : (new : Object) (d : Definitions) (p : Plain) → AllAsk (renewed new d) p
renew_asks (objects.Local l) d p = renew_if_asks (local_of l.name d) l.name p
renew_asks (objects.Alias l) d p = tt
renew_asks (objects.Remote l) d p = tt
renew_asks (objects.Channel l) d p = tt
renew_asks (objects.Process l) d p = tt

stale_asks : (b : Bool) (step : PathStep) (p : Plain) → AllAsk (stale_if b step) p
stale_asks true step p = (tt, tt)
stale_asks false step p = tt

switch_asks : (b : Bool) (name : List ℕ) (p : Plain) → AllAsk (switched_if b name) p
switch_asks true name p = (tt, tt)
switch_asks false name p = tt

-- the definitions that it leaves, and the queues
set_placed : (new : Object) (p : Plain) (qs : List Queue) → IsStocked p → ((name : List ℕ) → has_queue name p.queues ≡ true → has_queue name qs ≡ true)
    → (is_local new ≡ true → local_of (name_of new) p.definitions ≡ None → has_queue (name_of new) qs ≡ true) → (name : List ℕ) → is_some (as_local (object_in Queues name (set_in new p.definitions.objects))) ≡ true → has_queue name qs ≡ true
set_placed new p qs s keep fresh name e = bool_case (is_object Queues name new) (λ b. is_object Queues name new ≡ b → is_some (as_local (if b then Some new else object_in Queues name p.definitions.objects)) ≡ true → has_queue name qs ≡ true)
    (λ z w f. at (object_is Queues name new w).1 f (local_of (name_of new) p.definitions) refl) (λ z w f. keep name (s.placed name f)) refl (ap (λ (o : Option Object). is_some (as_local o)) (sym (set_found Queues name new p.definitions.objects)) ∙ e)
  where
    at : name ≡ name_of new → is_some (as_local (Some new)) ≡ true → (o : Option LocalQueue) → local_of (name_of new) p.definitions ≡ o → has_queue name qs ≡ true
    at is f None w = ap (λ (n : List ℕ). has_queue n qs) is ∙ fresh (some_local new f) w
    at is f (Some l) w = keep name (s.placed name (ap (λ (n : List ℕ). is_some (local_of n p.definitions)) is ∙ ap is_some w))

has_new : (new : Queue) (qs : List Queue) → has_queue new.name (set_queue new qs) ≡ true
has_new new [] = ap (λ (b : Bool). b || false) (name_self new.name)
has_new new (q ∷ qs) = bool_case (bytes_eq new.name q.name) (λ b. has_queue new.name (if b then new ∷ qs else q ∷ set_queue new qs) ≡ true)
    (λ e. ap (λ (b : Bool). b || has_queue new.name qs) (name_self new.name)) (λ e. right (bytes_eq new.name q.name) (has_new new qs))
  where
    right : (a : Bool) {b : Bool} → b ≡ true → (a || b) ≡ true
    right true e = refl
    right false e = e

abbrev objects_set : Object → Plain → Plain
objects_set new p = apply (ChangeObjects (changes.Set new)) p

-- what holds of a local queue by its form, where a change keeps that
set_at : (new : Object) (p : Plain) (P : Option LocalQueue → Type 0) (same : LocalQueue → LocalQueue → Bool) → ((a b : LocalQueue) → same a b ≡ true → P (Some a) → P (Some b)) → IsKind new p
    → (q : List ℕ) → is_some (local_of q p.definitions) ≡ true → (q ≡ name_of new → Over same new p) → P (local_of q p.definitions) → P (as_local (object_in Queues q (set_in new p.definitions.objects)))
set_at new p P same alike kind q e over h = subst (λ (o : Option Object). P (as_local o)) (sym (set_found Queues q new p.definitions.objects))
    (bool_case (is_object Queues q new) (λ b. is_object Queues q new ≡ b → P (as_local (if b then Some new else object_in Queues q p.definitions.objects)))
    (λ z w. let is = object_is Queues q new w in at is.0 is.1 (object_in Queues q p.definitions.objects) refl e h) (λ z w. h) refl)
  where
    as_new : (x : Object) → new ≡ x → (a : LocalQueue) → object_in (space_of new) (name_of new) p.definitions.objects ≡ Some (objects.Local a) → Over same new p → P (Some a) → P (as_local (Some x))
    as_new (objects.Local b) is a f o k = alike a b (o a b f is) k
    as_new (objects.Alias b) is a f o k = absurd (cc (kind (objects.Local a) f, ap is_local is))
    as_new (objects.Remote b) is a f o k = absurd (cc (kind (objects.Local a) f, ap is_local is))
    as_new (objects.Channel b) is a f o k = absurd (cc (kind (objects.Local a) f, ap is_local is))
    as_new (objects.Process b) is a f o k = absurd (cc (kind (objects.Local a) f, ap is_local is))

    at : Queues ≡ space_of new → q ≡ name_of new → (o : Option Object) → object_in Queues q p.definitions.objects ≡ o → is_some (as_local o) ≡ true → P (as_local o) → P (as_local (Some new))
    at space name None f k y = absurd cc
    at space name (Some (objects.Local a)) f k y = as_new new refl a
        (ap (λ (x : Space). object_in x (name_of new) p.definitions.objects) (sym space) ∙ ap (λ (n : List ℕ). object_in Queues n p.definitions.objects) (sym name) ∙ f) (over name) y
    at space name (Some (objects.Alias a)) f k y = absurd cc
    at space name (Some (objects.Remote a)) f k y = absurd cc
    at space name (Some (objects.Channel a)) f k y = absurd cc
    at space name (Some (objects.Process a)) f k y = absurd cc

-- queues of one usage, of one form
pub used_alike : (a b : Usage) → same_usage a b ≡ true → is_transmission a ≡ is_transmission b
used_alike a b e = bool_case (is_transmission a) (λ t. (if t then is_transmission b else not (is_transmission b)) ≡ true → t ≡ is_transmission b) (λ z w. sym w) (λ z w. bool_case (is_transmission b) (λ t. not t ≡ true → false ≡ t) (λ y v. absurd cc) (λ y v. refl) w) e

pub given_alike : (a b : Delivery) → same_delivery a b ≡ true → is_by_priority a ≡ is_by_priority b
given_alike a b e = bool_case (is_by_priority a) (λ t. (if t then is_by_priority b else not (is_by_priority b)) ≡ true → t ≡ is_by_priority b) (λ z w. sym w) (λ z w. bool_case (is_by_priority b) (λ t. not t ≡ true → false ≡ t) (λ y v. absurd cc) (λ y v. refl) w) e

formed_alike : (h : Row) (a b : LocalQueue) → same_form a b ≡ true → IsFormed (Some a) h → IsFormed (Some b) h
formed_alike h a b e f =
    let k = both_true (same_usage a.usage b.usage) (same_delivery a.delivery b.delivery) e in
    record { routed = f.routed ∙ used_alike a.usage b.usage k.0; lane = f.lane ∙ ap (λ (t : Bool). if t then lane_at h.message.md.priority else 0) (given_alike a.delivery b.delivery k.1) }

routed_alike : (m : Message) (a b : LocalQueue) → same_form a b ≡ true → IsRoutedOn (Some a) m → IsRoutedOn (Some b) m
routed_alike m a b e f = f ∙ used_alike a.usage b.usage (both_true (same_usage a.usage b.usage) (same_delivery a.delivery b.delivery) e).0

objects_routed : (new : Object) (p : Plain) → IsStocked p → IsChanged new p → IsRouted (objects_set new p)
objects_routed new p s h = record {
  rows = λ q x m. set_at new p (λ o. IsFormed o x) same_form (formed_alike x) h.kind q (s.rows q x m) (λ is. h.rows x (subst (λ (n : List ℕ). Mem x ((view p).rows n)) is m)) (s.routed.rows q x m);
  puts = λ n a m. set_at new p (λ o. IsRoutedOn o a.message) same_form (routed_alike a.message) h.kind a.queue (s.puts n a m) (λ is. h.puts n a m is) (s.routed.puts n a m);
  led = λ c x m k e.
      let l = s.routed.led c x m k e in
      record {
        there = set_keeps new p h.kind (queue_at x.leads) l.there;
        on = l.on;
        routed = λ out. set_at new p (λ o. is_some (dest_at x.leads) ≡ routes o) same_use (λ a b w f. f ∙ used_alike a.usage b.usage w) h.kind (queue_at x.leads) l.there
            (λ is. h.led c x m k e (subst (λ (n : List ℕ). has_step (steps.Queue n) x ≡ true) is l.on)) (l.routed out);
      };
  sorted = s.routed.sorted;
  doubted = s.routed.doubted;
  given = s.routed.given;
  waiting = s.routed.waiting;
}

unrenewed : (new : Object) (p : Plain) → IsStocked p → IsChanged new p → (is_local new ≡ true → local_of (name_of new) p.definitions ≡ None → has_queue (name_of new) p.queues ≡ true) → IsStocked (objects_set new p)
unrenewed new p s h there = record {
  once = once_set new p.definitions.objects s.once;
  placed = set_placed new p p.queues s (λ name e. e) there;
  rows = λ q x m. set_keeps new p h.kind q (s.rows q x m);
  puts = λ n a m. set_keeps new p h.kind a.queue (s.puts n a m);
  routed = objects_routed new p s h;
}

set_renewed : (new : Object) (p : Plain) → IsStocked p → IsChanged new p → IsStocked (apply (Renew (name_of new)) (objects_set new p))
set_renewed new p s h =
    let q : Plain = objects_set new p in
    record {
      once = once_set new p.definitions.objects s.once;
      placed = set_placed new p (set_queue (fresh_queue (name_of new)) p.queues) s (λ name e. has_set name (fresh_queue (name_of new)) p.queues e) (λ e f. has_new (fresh_queue (name_of new)) p.queues);
      rows = λ d x m. emptied q.definitions (view p) (name_of new) d x (λ c y n. set_keeps new p h.kind c (s.rows c y n)) (subst (λ (v : View). Mem x (v.rows d)) (applied (Renew (name_of new)) q tt) m);
      puts = λ n a m. set_keeps new p h.kind a.queue (s.puts n a m);
      routed = routed_on (Renew (name_of new)) q tt refl (ap (λ (v : View). v.rows) (applied (Renew (name_of new)) q tt)) (ap (λ (v : View). v.puts) (applied (Renew (name_of new)) q tt)) (objects_routed new p s h);
    }

set_stocked : (new : Object) (p : Plain) → IsStocked p → IsChanged new p → IsStocked (apply_all (renewed new p.definitions) (objects_set new p))
set_stocked (objects.Local l) p s h = at (local_of l.name p.definitions) refl
  where
    at : (o : Option LocalQueue) → local_of l.name p.definitions ≡ o → IsStocked (apply_all (renewed_if o l.name) (objects_set (objects.Local l) p))
    at None e = set_renewed (objects.Local l) p s h
    at (Some x) e = unrenewed (objects.Local l) p s h (λ w f. absurd (cc (e, f)))
set_stocked (objects.Alias l) p s h = unrenewed (objects.Alias l) p s h (λ e f. absurd cc)
set_stocked (objects.Remote l) p s h = unrenewed (objects.Remote l) p s h (λ e f. absurd cc)
set_stocked (objects.Channel l) p s h = unrenewed (objects.Channel l) p s h (λ e f. absurd cc)
set_stocked (objects.Process l) p s h = unrenewed (objects.Process l) p s h (λ e f. absurd cc)

-- An object is deleted

abbrev objects_less : Subject → Plain → Plain
objects_less s p = apply (ChangeObjects (changes.Delete s)) p

less_found : (s : Subject) (p : Plain) → AreOnce p.definitions.objects → (q : List ℕ)
    → local_of q (objects_less s p).definitions ≡ as_local (if same_space Queues (subject_space s) && bytes_eq q (subject_name s) then None else object_in Queues q p.definitions.objects)
less_found s p once q = ap as_local (delete_found Queues (subject_space s) q (subject_name s) p.definitions.objects once)

no_local : (o : Option LocalQueue) → is_some o ≡ false → None ≡ o
no_local None e = refl
no_local (Some q) e = absurd cc

-- a handle leads as it did
led_same : (new old : Definitions) (h : Handle) → local_of (queue_at h.leads) old ≡ local_of (queue_at h.leads) new → IsLed old h → IsLed new h
led_same new old h is l = record { there = sym (ap is_some is) ∙ l.there; on = l.on; routed = λ out. l.routed out ∙ ap routes is }

-- one that is none of a queue, or of a queue that is not local
other_stocked : (s : Subject) (p : Plain) → IsStocked p → ((q : List ℕ) → (same_space Queues (subject_space s) && bytes_eq q (subject_name s)) ≡ true → is_some (local_of q p.definitions) ≡ false) → IsStocked (objects_less s p)
other_stocked s p k none =
    let whole : (q : List ℕ) → local_of q (objects_less s p).definitions ≡ local_of q p.definitions = λ q. less_found s p k.once q
    ∙ bool_case (same_space Queues (subject_space s) && bytes_eq q (subject_name s)) (λ b. (same_space Queues (subject_space s) && bytes_eq q (subject_name s)) ≡ b → as_local (if b then None else object_in Queues q p.definitions.objects) ≡ local_of q p.definitions)
    (λ z w. no_local (local_of q p.definitions) (none q w)) (λ z w. refl) refl in
    let same : (q : List ℕ) → is_some (local_of q (objects_less s p).definitions) ≡ is_some (local_of q p.definitions) = λ q. ap is_some (whole q) in
    record {
      once = once_delete (subject_space s) (subject_name s) p.definitions.objects k.once;
      placed = λ name e. k.placed name (sym (same name) ∙ e);
      rows = λ q x m. same q ∙ k.rows q x m;
      puts = λ n a m. same a.queue ∙ k.puts n a m;
      routed = record {
        rows = λ q x m. subst (λ (o : Option LocalQueue). IsFormed o x) (sym (whole q)) (k.routed.rows q x m);
        puts = λ n a m. k.routed.puts n a m ∙ sym (ap routes (whole a.queue));
        led = λ c x m o e. led_same (objects_less s p).definitions p.definitions x (sym (whole (queue_at x.leads))) (k.routed.led c x m o e);
        sorted = k.routed.sorted;
        doubted = k.routed.doubted;
        given = k.routed.given;
        waiting = k.routed.waiting;
      };
    }

-- a local queue without rows and uncommitted puts

has_filtered : (name gone : List ℕ) (qs : List Queue) → bytes_eq name gone ≡ false → has_queue name qs ≡ true → has_queue name (filter (λ (q : Queue). not (bytes_eq gone q.name)) qs) ≡ true
has_filtered name gone [] e h = absurd cc
has_filtered name gone (q ∷ qs) e h = bool_case (bytes_eq gone q.name)
    (λ b. bytes_eq gone q.name ≡ b → has_queue name (if not b then q ∷ filter (λ (x : Queue). not (bytes_eq gone x.name)) qs else filter (λ (x : Queue). not (bytes_eq gone x.name)) qs) ≡ true)
    (λ z w. has_filtered name gone qs e (ap (λ (b : Bool). b || has_queue name qs) (sym (ap (bytes_eq name) (sym (name_is gone q.name w)) ∙ e)) ∙ h))
    (λ z w. bool_case (bytes_eq name q.name) (λ b. (b || has_queue name qs) ≡ true → (b || has_queue name (filter (λ (x : Queue). not (bytes_eq gone x.name)) qs)) ≡ true) (λ y v. refl) (λ y v. has_filtered name gone qs e v) h) refl

none_of_both : (a b : ℕ) → a + b ≡ 0 → (a ≡ 0) × (b ≡ 0)
none_of_both a b e = (omega (arith, e), omega (arith, e))

count_none : (name : List ℕ) (items : List Item) → count_by (is_put_to name) items ≡ 0 → (a : Add) → Mem a (puts_in items) → bytes_eq name a.queue ≡ false
count_none name [] e a m = absurd m
count_none name (Take q i b ∷ items) e a m = count_none name items (none_of_both 0 (count_by (is_put_to name) items) (sym (sum_by-cons (λ (x : Item). if is_put_to name x then 1 else 0) (Take q i b) items) ∙ e)).1 a m
count_none name (Put q p ∷ items) e a m =
    let k = none_of_both (if bytes_eq name q then 1 else 0) (count_by (is_put_to name) items) (sym (sum_by-cons (λ (x : Item). if is_put_to name x then 1 else 0) (Put q p) items) ∙ e) in
    at k.0 (λ n. count_none name items k.1 a n) m
  where
    no_one : (b : Bool) → ◌≡◌ {A = ℕ} (if b then 1 else 0) 0 → b ≡ false
    no_one true e = absurd cc
    no_one false e = refl

    at : ◌≡◌ {A = ℕ} (if bytes_eq name q then 1 else 0) 0 → (Mem a (puts_in items) → bytes_eq name a.queue ≡ false) → Mem a (puts_in (Put q p ∷ items)) → bytes_eq name a.queue ≡ false
    at z f (inl w) = ap (λ (x : Add). bytes_eq name x.queue) w ∙ no_one (bytes_eq name q) z
    at z f (inr n) = f n

puts_none : (name : List ℕ) (cs : List Connection) → puts_to name cs ≡ 0 → (n : ℕ) (a : Add) → Mem a (puts_in (items_of (connection_at n cs))) → bytes_eq name a.queue ≡ false
puts_none name [] e n a m = absurd m
puts_none name (c ∷ cs) e n a m =
    let k = none_of_both (count_by (is_put_to name) c.unit) (puts_to name cs) (sym (sum_by-cons (λ (x : Connection). count_by (is_put_to name) x.unit) c cs) ∙ e) in
    bool_case (c.number == n) (λ b. Mem a (puts_in (items_of (if b then Some c else connection_at n cs))) → bytes_eq name a.queue ≡ false) (λ z w. count_none name c.unit k.0 a w) (λ z w. puts_none name cs k.1 n a w) m

no_more : (a b : ℕ) → nat_lt 0 (a + b) ≡ false → b ≡ 0
no_more a b e = grind (arith, nat_tests)

-- (the queue is known by its object)
puts_gone : (p : Plain) (name : List ℕ) → IsDeleted (subjects.Local name) p → puts_to name p.connections ≡ 0
puts_gone p name h = at h.old h.found h.kind h.filled
  where
    at : (old : Object) → named (subjects.Local name) p.definitions ≡ Some old → is_kind (subjects.Local name) old ≡ true → is_filled old (uses_of p) ≡ false → puts_to name p.connections ≡ 0
    at (objects.Local l) e k f = subst (λ (n : List ℕ). puts_to n p.connections ≡ 0) (object_name name p.definitions.objects (objects.Local l) e) (no_more (length ((view p).rows l.name)) (puts_to l.name p.connections) f)
    at (objects.Alias l) e k f = absurd cc
    at (objects.Remote l) e k f = absurd cc
    at (objects.Channel l) e k f = absurd cc
    at (objects.Process l) e k f = absurd cc

-- no handle's path has it
none_any : {A : Type 0} (f : A → Bool) (xs : List A) → list_any f xs ≡ false → (x : A) → Mem x xs → f x ≡ false
none_any f [] e x m = absurd m
none_any f (y ∷ ys) e x (inl is) = ap f is ∙ no_right (f y) (list_any f ys) e
none_any f (y ∷ ys) e x (inr m) = none_any f ys (no_left (f y) (list_any f ys) e) x m

no_handle : (f : Handle → Bool) (cs : List Connection) → any_handle f cs ≡ false → (c : Connection) (h : Handle) → Mem c cs → Mem h c.handles → f h ≡ true → ⊥
no_handle f cs e c h m k w = cc (w, none_any f c.handles (none_any (λ (x : Connection). list_any f x.handles) cs e c m) h k)

path_free : (p : Plain) (name : List ℕ) → IsDeleted (subjects.Local name) p → on_path (steps.Queue name) p ≡ false
path_free p name h = at h.old h.found h.kind h.path
  where
    at : (old : Object) → named (subjects.Local name) p.definitions ≡ Some old → is_kind (subjects.Local name) old ≡ true → is_on_path old (uses_of p) ≡ false → on_path (steps.Queue name) p ≡ false
    at (objects.Local l) e k f = subst (λ (n : List ℕ). on_path (steps.Queue n) p ≡ false) (object_name name p.definitions.objects (objects.Local l) e) f
    at (objects.Alias l) e k f = absurd cc
    at (objects.Remote l) e k f = absurd cc
    at (objects.Channel l) e k f = absurd cc
    at (objects.Process l) e k f = absurd cc

local_stocked : (name : List ℕ) (p : Plain) → IsStocked p → IsDeleted (subjects.Local name) p → IsStocked (apply (DropQueue name) (objects_less (subjects.Local name) p))
local_stocked name p k h =
    let less : Plain = objects_less (subjects.Local name) p in
    let other : (q : List ℕ) → bytes_eq q name ≡ false → local_of q less.definitions ≡ local_of q p.definitions = λ q e.
    less_found (subjects.Local name) p k.once q ∙ ap (λ (b : Bool). as_local (if b then None else object_in Queues q p.definitions.objects)) e in
    let here : (q : List ℕ) → bytes_eq q name ≡ true → is_some (local_of q less.definitions) ≡ false = λ q e.
    ap is_some (less_found (subjects.Local name) p k.once q ∙ ap (λ (b : Bool). as_local (if b then None else object_in Queues q p.definitions.objects)) e) in
    record {
      once = once_delete Queues name p.definitions.objects k.once;
      placed = λ q e. bool_case (bytes_eq q name) (λ b. bytes_eq q name ≡ b → has_queue q (apply (DropQueue name) less).queues ≡ true)
          (λ z w. absurd (cc (here q w, e))) (λ z w. has_filtered q name p.queues w (k.placed q (ap is_some (sym (other q w)) ∙ e))) refl;
      rows = λ q x m. bool_case (bytes_eq q name) (λ b. bytes_eq q name ≡ b → Mem x (if b then [] else (view p).rows q) → is_some (local_of q less.definitions) ≡ true)
          (λ z w n. absurd n) (λ z w n. ap is_some (other q w) ∙ k.rows q x n) refl (subst (λ (v : View). Mem x (v.rows q)) (applied (DropQueue name) less tt) m);
      puts = λ n a m. ap is_some (other a.queue (elsewhere n a m)) ∙ k.puts n a m;
      routed = record {
        rows = λ q x m. bool_case (bytes_eq q name) (λ b. bytes_eq q name ≡ b → Mem x (if b then [] else (view p).rows q) → IsFormed (local_of q less.definitions) x)
            (λ z w n. absurd n) (λ z w n. subst (λ (o : Option LocalQueue). IsFormed o x) (sym (other q w)) (k.routed.rows q x n)) refl (subst (λ (v : View). Mem x (v.rows q)) (applied (DropQueue name) less tt) m);
        puts = λ n a m. k.routed.puts n a m ∙ sym (ap routes (other a.queue (elsewhere n a m)));
        led = λ c x m o e. let l = k.routed.led c x m o e in led_same less.definitions p.definitions x (sym (other (queue_at x.leads) (unled c x m o l.on))) l;
        sorted = k.routed.sorted;
        doubted = λ q x t m e o l. bool_case (bytes_eq q name) (λ b. Mem x (if b then [] else (view p).rows q) → x.by ≡ Some (holders.Batch t.channel)) (λ z n. absurd n) (λ z n. k.routed.doubted q x t n e o l)
            (subst (λ (v : View). Mem x (v.rows q)) (applied (DropQueue name) less tt) m);
        given = k.routed.given;
        waiting = k.routed.waiting;
      };
    }
  where
    elsewhere : (n : ℕ) (a : Add) → Mem a ((view p).puts n) → bytes_eq a.queue name ≡ false
    elsewhere n a m = name_turned a.queue name ∙ puts_none name p.connections (puts_gone p name h) n a m

    unled : (c : Connection) (x : Handle) → Mem c p.connections → Mem x c.handles → has_step (steps.Queue (queue_at x.leads)) x ≡ true → bytes_eq (queue_at x.leads) name ≡ false
    unled c x m k on = is_false (bytes_eq (queue_at x.leads) name) (λ e. no_handle (has_step (steps.Queue name)) p.connections (path_free p name h) c x m k (subst (λ (n : List ℕ). has_step (steps.Queue n) x ≡ true) (name_is (queue_at x.leads) name e) on))

-- an object of another kind
not_local : (s : Subject) (p : Plain) → IsDeleted s p → is_local (new_object s) ≡ false → subject_space s ≡ Queues → (q : List ℕ) → (same_space Queues (subject_space s) && bytes_eq q (subject_name s)) ≡ true → is_some (local_of q p.definitions) ≡ false
not_local s p h none space q e =
    let name : q ≡ subject_name s = name_is q (subject_name s) (right (same_space Queues (subject_space s)) (bytes_eq q (subject_name s)) e) in
    ap (λ (n : List ℕ). is_some (as_local (object_in Queues n p.definitions.objects))) name
    ∙ ap (λ (x : Space). is_some (as_local (object_in x (subject_name s) p.definitions.objects))) (sym space)
    ∙ ap (λ (o : Option Object). is_some (as_local o)) h.found ∙ at h.old (sym (kind_local s h.old h.kind) ∙ none)
  where
    right : (a b : Bool) → (a && b) ≡ true → b ≡ true
    right true b e = e
    right false b e = absurd cc

    at : (o : Object) → is_local o ≡ false → is_some (as_local (Some o)) ≡ false
    at (objects.Local l) w = absurd cc
    at (objects.Alias l) w = refl
    at (objects.Remote l) w = refl
    at (objects.Channel l) w = refl
    at (objects.Process l) w = refl

delete_stocked : (s : Subject) (p : Plain) → IsStocked p → IsDeleted s p → IsStocked (apply_all (dropped s) (objects_less s p))
delete_stocked (subjects.Local name) p k h = local_stocked name p k h
delete_stocked (subjects.Alias name) p k h = other_stocked (subjects.Alias name) p k (not_local (subjects.Alias name) p h refl refl)
delete_stocked (subjects.Remote name) p k h = other_stocked (subjects.Remote name) p k (not_local (subjects.Remote name) p h refl refl)
delete_stocked (subjects.Channel name) p k h = other_stocked (subjects.Channel name) p k (λ q e. absurd cc)
delete_stocked (subjects.Process name) p k h = other_stocked (subjects.Process name) p k (λ q e. absurd cc)

-- What follows

-- What a change keeps to follows from its tests; handles that it makes stale lead nowhere.

pub has_no_rows : (a b : ℕ) → nat_lt 0 (a + b) ≡ false → a ≡ 0
has_no_rows a b e = grind (arith, nat_tests)

empty_rows : (rows : List Row) (h : Row) → length rows ≡ 0 → Mem h rows → ⊥
empty_rows [] h e m = m
empty_rows (row ∷ rows) h e m = cc e

-- the form of a queue changes where it has neither rows nor puts
kept_form : (reroutes : Bool) (new : Object) (p : Plain) → IsSet new reroutes p → (has_rows (name_of new) p ≡ false → ⊥) → Over same_form new p
kept_form reroutes new p h filled a b f is = at (object_name_of a f) (h (objects.Local a) f).filled
  where
    object_name_of : (x : LocalQueue) → object_in (space_of new) (name_of new) p.definitions.objects ≡ Some (objects.Local x) → x.name ≡ name_of new
    object_name_of x e = sym (object_is (space_of new) (name_of new) (objects.Local x) (found_object (space_of new) (name_of new) p.definitions.objects (objects.Local x) e)).1

    at : a.name ≡ name_of new → (changes_rows (objects.Local a) new && is_filled (objects.Local a) (uses_of p)) ≡ false → same_form a b ≡ true
    at name e = bool_case (same_form a b) (λ t. (not t && has_rows a.name p) ≡ false → t ≡ true) (λ z w. refl) (λ z w. absurd (filled (ap (λ (n : List ℕ). has_rows n p) (sym name) ∙ w)))
        (ap (λ (x : Object). changes_rows (objects.Local a) x && has_rows a.name p) (sym is) ∙ e)

kept_use : (new : Object) (p : Plain) → IsSet new false p → Over same_use new p
kept_use new p h a b f is = bool_case (same_use a b) (λ t. not t ≡ false → t ≡ true) (λ z w. refl) (λ z w. absurd cc) (ap (leads_elsewhere (objects.Local a)) (sym is) ∙ (h (objects.Local a) f).leads)

row_fills : (p : Plain) (name : List ℕ) (h : Row) → Mem h ((view p).rows name) → has_rows name p ≡ false → ⊥
row_fills p name h m e = empty_rows ((view p).rows name) h (has_no_rows (length ((view p).rows name)) (puts_to name p.connections) e) m

put_fills : (p : Plain) (name : List ℕ) (n : ℕ) (a : Add) → Mem a ((view p).puts n) → a.queue ≡ name → has_rows name p ≡ false → ⊥
put_fills p name n a m is e = cc (puts_none name p.connections (no_more (length ((view p).rows name)) (puts_to name p.connections) e) n a m, ap (bytes_eq name) is, name_self name)

set_changed : (new : Object) (p : Plain) → IsSet new false p → IsChanged new p
set_changed new p h = record {
  kind = λ old f. (h old f).kind;
  rows = λ x m. kept_form false new p h (row_fills p (name_of new) x m);
  puts = λ n a m is. kept_form false new p h (put_fills p (name_of new) n a m is);
  led = λ c x m k e on. kept_use new p h;
}

no_stale : (step : PathStep) (c : Connection) (cs : List Connection) (h : Handle) → Mem c (map (made_stale step) cs) → Mem h c.handles → h.stale ≡ false → has_step step h ≡ true → ⊥
no_stale step c cs h m k e on =
    let x = map_mem (made_stale step) c cs m in
    let y = map_mem (λ (z : Handle). handle_stale (has_step step z) z) h x.0.handles (subst (λ (z : Connection). Mem h z.handles) x.2 k) in
    at (has_step step y.0) refl y.2
  where
    at : (b : Bool) → has_step step (map_mem (λ (z : Handle). handle_stale (has_step step z) z) h (map_mem (made_stale step) c cs m).0.handles (subst (λ (z : Connection). Mem h z.handles) (map_mem (made_stale step) c cs m).2 k)).0 ≡ b → h ≡ handle_stale b (map_mem (λ (z : Handle). handle_stale (has_step step z) z) h (map_mem (made_stale step) c cs m).0.handles (subst (λ (z : Connection). Mem h z.handles) (map_mem (made_stale step) c cs m).2 k)).0 → ⊥
    at true w is = cc (e, ap (λ (z : Handle). z.stale) is)
    at false w is = cc (on, is, w)

stale_changed : (new : Object) (p : Plain) → IsSet new true p → IsChanged new (apply (MakeStale (steps.Queue (name_of new))) p)
stale_changed new p h = record {
  kind = λ old f. (h old f).kind;
  rows = λ x m. kept_form true new p h (row_fills p (name_of new) x m);
  puts = λ n a m is. kept_form true new p h (put_fills p (name_of new) n a (subst (λ (v : View). Mem a (v.puts n)) (applied (MakeStale (steps.Queue (name_of new))) p tt) m) is);
  led = λ c x m k e on. absurd (no_stale (steps.Queue (name_of new)) c p.connections x m k e on);
}

-- handles are made stale before or behind
stale_first : (step : PathStep) (new : Object) (p : Plain) → apply (MakeStale step) (apply_all (renewed new p.definitions) (objects_set new p)) ≡ apply_all (renewed new p.definitions) (objects_set new (apply (MakeStale step) p))
stale_first step (objects.Local l) p = at (local_of l.name p.definitions)
  where
    at : (o : Option LocalQueue) → apply (MakeStale step) (apply_all (renewed_if o l.name) (objects_set (objects.Local l) p)) ≡ apply_all (renewed_if o l.name) (objects_set (objects.Local l) (apply (MakeStale step) p))
    at None = refl
    at (Some x) = refl
stale_first step (objects.Alias l) p = refl
stale_first step (objects.Remote l) p = refl
stale_first step (objects.Channel l) p = refl
stale_first step (objects.Process l) p = refl

set_staled : (reroutes : Bool) (new : Object) (p : Plain) → IsStocked p → IsSet new reroutes p → IsStocked (apply_all (stale_if reroutes (steps.Queue (name_of new))) (apply_all (renewed new p.definitions) (objects_set new p)))
set_staled false new p s h = set_stocked new p s (set_changed new p h)
set_staled true new p s h = subst IsStocked (sym (stale_first (steps.Queue (name_of new)) new p))
    (set_stocked new (apply (MakeStale (steps.Queue (name_of new))) p) (stays (MakeStale (steps.Queue (name_of new))) p tt s) (stale_changed new p h))

follows_stocked : (change : ObjectChange) (planned : Planned) (p : Plain) → IsStocked p → Fits change planned.reroutes p → IsStocked (apply_all (follows change planned p.definitions) (apply (ChangeObjects change) p))
follows_stocked (changes.Set new) planned p s h =
    let a : Plain = apply_all (renewed new p.definitions) (objects_set new p) in
    let b : Plain = apply_all (stale_if planned.reroutes (steps.Queue (name_of new))) a in
    subst IsStocked (sym (behind (renewed new p.definitions ++ stale_if planned.reroutes (steps.Queue (name_of new))) (switched_if planned.switches_on (name_of new)) (objects_set new p)
    ∙ ap (apply_all (switched_if planned.switches_on (name_of new))) (behind (renewed new p.definitions) (stale_if planned.reroutes (steps.Queue (name_of new))) (objects_set new p))))
    (all_stay (switched_if planned.switches_on (name_of new)) b (switch_asks planned.switches_on (name_of new) b) (set_staled planned.reroutes new p s h))
follows_stocked (changes.SetManager m) planned p s h =
    let q : Plain = apply (ChangeObjects (changes.SetManager m)) p in
    all_stay (stale_if planned.reroutes steps.DefXmitq) q (stale_asks planned.reroutes steps.DefXmitq q) (record { once = s.once; placed = s.placed; rows = s.rows; puts = s.puts; routed = same })
  where
    same : IsRouted (apply (ChangeObjects (changes.SetManager m)) p)
    same = record {
      rows = s.routed.rows;
      puts = s.routed.puts;
      led = λ c x n k e. let l = s.routed.led c x n k e in record { there = l.there; on = l.on; routed = l.routed };
      sorted = s.routed.sorted;
      doubted = s.routed.doubted;
      given = s.routed.given;
      waiting = s.routed.waiting;
    }
follows_stocked (changes.Delete subject) planned p s h = delete_stocked subject p s h

-- (what is found does not depend on the log)
in_log : (change : ObjectChange) (reroutes : Bool) (log : LogState) (p : Plain) → Fits change reroutes p → Fits change reroutes (record p { log = log })
in_log (changes.Set new) reroutes log p h = λ old f. let k = h old f in record { kind = k.kind; filled = filled_over old k.filled; leads = k.leads }
  where
    filled_over : (o : Object) → (changes_rows o new && is_filled o (uses_of p)) ≡ false → (changes_rows o new && is_filled o (uses_of (record p { log = log }))) ≡ false
    filled_over (objects.Local l) e = e
    filled_over (objects.Alias l) e = e
    filled_over (objects.Remote l) e = e
    filled_over (objects.Channel l) e = e
    filled_over (objects.Process l) e = e
in_log (changes.SetManager m) reroutes log p h = tt
in_log (changes.Delete s) reroutes log p h = record { old = h.old; found = h.found; kind = h.kind; filled = filled h.old h.filled; path = path h.old h.path }
  where
    path : (o : Object) → is_on_path o (uses_of p) ≡ false → is_on_path o (uses_of (record p { log = log })) ≡ false
    path (objects.Local l) e = e
    path (objects.Alias l) e = e
    path (objects.Remote l) e = e
    path (objects.Channel l) e = e
    path (objects.Process l) e = e

    filled : (o : Object) → is_filled o (uses_of p) ≡ false → is_filled o (uses_of (record p { log = log })) ≡ false
    filled (objects.Local l) e = e
    filled (objects.Alias l) e = e
    filled (objects.Remote l) e = e
    filled (objects.Channel l) e = e
    filled (objects.Process l) e = e

planned_stocked : (r : Result Plan ScRefusal) (p : Plain) → AllFit p r → IsStocked p → StepKeeps IsStocked (planned_step r p.definitions) p
planned_stocked (Ok (plans.Change planned)) p h s =
    let log : LogState = written (records.Objects planned.change) p.log in
    (follows_stocked planned.change planned (record p { log = log }) (record { once = s.once; placed = s.placed; rows = s.rows; puts = s.puts; routed = s.routed }) (in_log planned.change planned.reroutes log p h), tt)
planned_stocked (Ok (plans.Show shown)) p h s = tt
planned_stocked (Err refusal) p h s = tt

pub command_stocked : (c : Command) (p : Plain) → IsStocked p → StepKeeps IsStocked (command c p) p
command_stocked c p s = tested_on IsStocked (when (not (is_up p.running)) refusals.Down ∷ []) (planned_step (plan c p.given.name p.definitions (uses_of p)) p.definitions) p
    (λ e. planned_stocked (plan c p.given.name p.definitions (uses_of p)) p (plan_fits c p) s)
