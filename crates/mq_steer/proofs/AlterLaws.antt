-- A change of objects: the parts change as the plain manager does, and stay tied.
use Rattle.std.proofs.Common.{◌≡◌, ℕ, ◌+◌, Bool, true, false, cond, List, [], ◌∷◌, ◌++◌, length, refl, ap, sym, subst, ◌∙◌}
use Rattle.std.specs.Prelude.{Option, Some, None, not, is_some, nat_lt, ◌&&◌}
use Rattle.std.specs.Str.{bytes_eq}
use Rattle.mq_objects.specs.declared.object.LocalQueue.{LocalQueue}
use Rattle.mq_objects.specs.declared.object.Object.{Object}
use Rattle.mq_objects.specs.declared.object.Object.TheVariants as objects
use Rattle.mq_objects.specs.declared.command.Subject.TheVariants as subjects
use Rattle.mq_objects.specs.declared.change.ObjectChange.{ObjectChange}
use Rattle.mq_objects.specs.declared.change.ObjectChange.TheVariants as changes
use Rattle.mq_objects.specs.Names.{Queues, object_in, as_local, local_of, is_by_priority}
use Rattle.mq_objects.specs.Changed.{changed}
use Rattle.mq_resolve.specs.declared.route.PathStep.TheVariants as steps
use Rattle.mq_sc_apply.specs.declared.answers.Planned.{Planned}
use Rattle.mq_sc_apply.specs.Planned.{same_delivery, same_usage}
use Rattle.mq_calls.specs.State.{Queue as StateQueue, fresh_queue}
use Rattle.mq_calls.specs.State.Change.{ChangeObjects}
use Rattle.mq_calls.specs.Words.{Plain, Running, apply, apply_all, set_queue, queue_in, puts_to}
use Rattle.mq_spec_manager.specs.Commands.{object_part, follows, renewed_if, stale_if, switched_if}
use Rattle.mq_law_manager.proofs.Commanding.{no_length}
use Rattle.mq_core.specs.from_handles.Desks.{Desk}
use Rattle.mq_place.specs.States.{QueueState, queues_of, state_in, change_state, switched_on, with_lanes, rows_in}
use Rattle.mq_place.proofs.PlainLaws.{defined_as, deleted_as, changed_as}
use Rattle.mq_core.specs.Views.{PartsValue, plain_of, frozen_of, running_of}
use Rattle.mq_core.specs.Ties.{Tied, state_lanes, local_lanes, mode_is_up}
use Rattle.mq_core.proofs.PlaceLaws.{name_is, some_same, state_changed}
use Rattle.mq_core.proofs.PutLaws.{queues_same}
use Rattle.mq_core.proofs.MeetLaws.{running_up}
use Rattle.mq_steer.specs.Altered.{CanSet, CanChange, MayLane, renewed_states, switched_states, stale_desk, states_after, desk_after, altered}
use Rattle.mq_steer.proofs.TurnLaws.{local_name}

true_false : true ≡ false → ⊥
true_false e = absurd cc

-- ---- a queue that may take other lanes has no rows

local_is : (o : Option Object) (q : LocalQueue) → as_local o ≡ Some q → o ≡ Some (objects.Local q)
local_is None q e = absurd cc
local_is (Some (objects.Local p)) q e = ap (λ (l : LocalQueue). Some (objects.Local l)) (some_same p q e)
local_is (Some (objects.Alias p)) q e = absurd cc
local_is (Some (objects.Remote p)) q e = absurd cc
local_is (Some (objects.Channel p)) q e = absurd cc
local_is (Some (objects.Process p)) q e = absurd cc

unfilled : (u d h : Bool) → d ≡ false → (not (u && d) && h) ≡ false → h ≡ false
unfilled true d h e f = subst (λ (t : Bool). (not t && h) ≡ false) e f
unfilled false d h e f = f

pub may_lane : (q : LocalQueue) (reroutes on : Bool) (x : PartsValue) → CanSet (objects.Local q) reroutes on (plain_of x) → MayLane q x
may_lane q reroutes on x can old found other =
    let over = can.over (objects.Local old) (local_is (object_in Queues q.name x.defs.definitions.objects) old found) in
    let named = name_is q.name old.name (local_name q.name x.defs.definitions.objects old found) in
    let rows = (queue_in old.name (queues_of x.queues.states)).rows in
    subst (λ (n : List ℕ). rows_in n x.queues.states ≡ []) (sym named)
    (no_length rows (puts_to old.name x.desk.live) (unfilled (same_usage old.usage q.usage) (same_delivery old.delivery q.delivery) (nat_lt 0 (length rows + puts_to old.name x.desk.live)) other over.filled))

-- ---- queues that are there, and lanes

pub undefined_none : (name : List ℕ) (x : PartsValue) → Tied x → local_of name x.defs.definitions ≡ None → state_in name x.queues.states ≡ None
undefined_none name x t e = by (state_in name x.queues.states) (t.queues.lanes name ∙ ap local_lanes e)
  where
    by : (o : Option QueueState) → state_lanes o ≡ None → o ≡ None
    by None l = refl
    by (Some s) l = absurd cc

pub defined_some : (name : List ℕ) (x : PartsValue) (q : LocalQueue) → Tied x → local_of name x.defs.definitions ≡ Some q → (s : QueueState) × (state_in name x.queues.states ≡ Some s)
defined_some name x q t e = by (state_in name x.queues.states) refl (t.queues.lanes name ∙ ap local_lanes e)
  where
    by : (o : Option QueueState) → state_in name x.queues.states ≡ o → state_lanes o ≡ Some (is_by_priority q.delivery) → (s : QueueState) × (state_in name x.queues.states ≡ Some s)
    by None is l = absurd cc
    by (Some s) is l = (s, is)

bool_same : (a b : Bool) → Some a ≡ Some b → a ≡ b
bool_same a b e = some_same a b e

lanes_kept : (name : List ℕ) (b : Bool) (ss : List QueueState) → state_lanes (state_in name ss) ≡ Some b → change_state name (with_lanes b) ss ≡ ss
lanes_kept name b [] e = refl
lanes_kept name b (s ∷ ss) e = by (bytes_eq name s.queue.name) e (lanes_kept name b ss)
  where
    by : (t : Bool) → state_lanes (cond t (Some s) (state_in name ss)) ≡ Some b → (state_lanes (state_in name ss) ≡ Some b → change_state name (with_lanes b) ss ≡ ss)
        → cond t (with_lanes b s ∷ ss) (s ∷ change_state name (with_lanes b) ss) ≡ s ∷ ss
    by true e rest = ap (λ (l : Bool). with_lanes l s ∷ ss) (sym (bool_same s.by_priority b e))
    by false e rest = ap (λ (ts : List QueueState). s ∷ ts) (rest e)

alike : (u v : Bool) → cond u v (not v) ≡ true → u ≡ v
alike true true e = refl
alike true false e = absurd cc
alike false true e = absurd cc
alike false false e = refl

pub lanes_same : (q old : LocalQueue) (x : PartsValue) → Tied x → local_of q.name x.defs.definitions ≡ Some old → same_delivery old.delivery q.delivery ≡ true
    → change_state q.name (with_lanes (is_by_priority q.delivery)) x.queues.states ≡ x.queues.states
lanes_same q old x t e same =
    lanes_kept q.name (is_by_priority q.delivery) x.queues.states
    (t.queues.lanes q.name ∙ ap local_lanes e ∙ ap (λ (b : Bool). Some b) (alike (is_by_priority old.delivery) (is_by_priority q.delivery) same))

-- ---- as the plain manager sees it

abbrev with_change : PartsValue → ObjectChange → Desk → List StateQueue → Plain
with_change x change desk qs = record (plain_of x) {
  definitions = changed change x.defs.definitions;
  queues = qs;
  connections = desk.live;
  numbers = record { incarnation = x.incarnation; idents = x.idents; connections = desk.last };
}

abbrev with_running : Planned → ℕ → ℕ → PartsValue → Plain
with_running planned r s x = record (with_change x planned.change (desk_after planned.change planned.reroutes x.desk) (queues_of (states_after planned.change planned.switches_on x.defs.definitions x.queues.states))) { running = running_of (frozen_of (altered planned r s x)) x.mode }

altered_is : (planned : Planned) (r s : ℕ) (x : PartsValue) → mode_is_up x.mode ≡ true
    → plain_of (altered planned r s x) ≡ with_change x planned.change (desk_after planned.change planned.reroutes x.desk) (queues_of (states_after planned.change planned.switches_on x.defs.definitions x.queues.states))
altered_is planned r s x up =
    ap (λ (run : Running). record (with_change x planned.change (desk_after planned.change planned.reroutes x.desk) (queues_of (states_after planned.change planned.switches_on x.defs.definitions x.queues.states))) { running = run })
    (running_up (frozen_of x) (frozen_of (altered planned r s x)) x.mode up)

-- a local queue
abbrev queues_behind : Option LocalQueue → Bool → List ℕ → List StateQueue → List StateQueue
queues_behind None true name qs = set_queue (switched_on (queue_in name (set_queue (fresh_queue name) qs))) (set_queue (fresh_queue name) qs)
queues_behind None false name qs = set_queue (fresh_queue name) qs
queues_behind (Some q) true name qs = set_queue (switched_on (queue_in name qs)) qs
queues_behind (Some q) false name qs = qs

local_queues : (q : LocalQueue) (x : PartsValue) (o : Option LocalQueue) (on : Bool) → Tied x → local_of q.name x.defs.definitions ≡ o → (on ≡ true → is_some o ≡ true)
    → queues_of (switched_states on q.name (renewed_states o q x.queues.states)) ≡ queues_behind o on q.name (queues_of x.queues.states)
local_queues q x None true t e marked = absurd (true_false (sym (marked refl)))
local_queues q x None false t e marked = defined_as q.name (is_by_priority q.delivery) x.queues.states (undefined_none q.name x t e)
local_queues q x (Some old) false t e marked = queues_same q.name (with_lanes (is_by_priority q.delivery)) (λ s. refl) x.queues.states
local_queues q x (Some old) true t e marked =
    let found = defined_some q.name x old t e in
    let b = is_by_priority q.delivery in
    let there = state_changed q.name (with_lanes b) (λ s. refl) x.queues.states found.0 found.1 in
    changed_as q.name switched_on (change_state q.name (with_lanes b) x.queues.states) (with_lanes b found.0) (λ k. refl) there
    ∙ ap (λ (qs : List StateQueue). set_queue (switched_on (queue_in q.name qs)) qs) (queues_same q.name (with_lanes b) (λ s. refl) x.queues.states)

follows_local : (q : LocalQueue) (x : PartsValue) (o : Option LocalQueue) (reroutes on : Bool) (qs : List StateQueue) → qs ≡ queues_behind o on q.name (queues_of x.queues.states)
    → with_change x (changes.Set (objects.Local q)) (stale_desk reroutes (steps.Queue q.name) x.desk) qs
    ≡ apply_all (renewed_if o q.name ++ stale_if reroutes (steps.Queue q.name) ++ switched_if on q.name) (apply (ChangeObjects (changes.Set (objects.Local q))) (plain_of x))
follows_local q x None true true qs e = ap (with_change x (changes.Set (objects.Local q)) (stale_desk true (steps.Queue q.name) x.desk)) e
follows_local q x None true false qs e = ap (with_change x (changes.Set (objects.Local q)) (stale_desk true (steps.Queue q.name) x.desk)) e
follows_local q x None false true qs e = ap (with_change x (changes.Set (objects.Local q)) x.desk) e
follows_local q x None false false qs e = ap (with_change x (changes.Set (objects.Local q)) x.desk) e
follows_local q x (Some old) true true qs e = ap (with_change x (changes.Set (objects.Local q)) (stale_desk true (steps.Queue q.name) x.desk)) e
follows_local q x (Some old) true false qs e = ap (with_change x (changes.Set (objects.Local q)) (stale_desk true (steps.Queue q.name) x.desk)) e
follows_local q x (Some old) false true qs e = ap (with_change x (changes.Set (objects.Local q)) x.desk) e
follows_local q x (Some old) false false qs e = ap (with_change x (changes.Set (objects.Local q)) x.desk) e

abbrev planned_of : ObjectChange → Bool → Bool → Planned
planned_of change reroutes on = record { change = change; reroutes = reroutes; switches_on = on }

abbrev Follows : ObjectChange → Bool → Bool → PartsValue → Type 0
Follows change reroutes on x =
    with_change x change (desk_after change reroutes x.desk) (queues_of (states_after change on x.defs.definitions x.queues.states))
    ≡ apply_all (follows change (planned_of change reroutes on) x.defs.definitions) (apply (ChangeObjects change) (plain_of x))

follows_set : (new : Object) (reroutes on : Bool) (x : PartsValue) → Tied x → CanSet new reroutes on (plain_of x) → Follows (changes.Set new) reroutes on x
follows_set (objects.Local q) reroutes on x t can =
    follows_local q x (local_of q.name x.defs.definitions) reroutes on _ (local_queues q x (local_of q.name x.defs.definitions) on t refl can.marked)
follows_set (objects.Alias a) true true x t can = absurd (true_false can.marked)
follows_set (objects.Alias a) false true x t can = absurd (true_false can.marked)
follows_set (objects.Alias a) true false x t can = refl
follows_set (objects.Alias a) false false x t can = refl
follows_set (objects.Remote a) true true x t can = absurd (true_false can.marked)
follows_set (objects.Remote a) false true x t can = absurd (true_false can.marked)
follows_set (objects.Remote a) true false x t can = refl
follows_set (objects.Remote a) false false x t can = refl
follows_set (objects.Channel c) true on x t can = absurd (true_false can.marked.0)
follows_set (objects.Channel c) false true x t can = absurd (true_false can.marked.1)
follows_set (objects.Channel c) false false x t can = refl
follows_set (objects.Process c) true on x t can = absurd (true_false can.marked.0)
follows_set (objects.Process c) false true x t can = absurd (true_false can.marked.1)
follows_set (objects.Process c) false false x t can = refl

follows_all : (change : ObjectChange) (reroutes on : Bool) (x : PartsValue) → Tied x → CanChange change reroutes on (plain_of x) → Follows change reroutes on x
follows_all (changes.Set new) reroutes on x t can = follows_set new reroutes on x t can
follows_all (changes.SetManager m) true on x t can = refl
follows_all (changes.SetManager m) false on x t can = refl
follows_all (changes.Delete (subjects.Local name)) reroutes on x t can = ap (with_change x (changes.Delete (subjects.Local name)) x.desk) (deleted_as name x.queues.states)
follows_all (changes.Delete (subjects.Alias name)) reroutes on x t can = refl
follows_all (changes.Delete (subjects.Remote name)) reroutes on x t can = refl
follows_all (changes.Delete (subjects.Channel name)) reroutes on x t can = refl
follows_all (changes.Delete (subjects.Process name)) reroutes on x t can = refl

pub altered_view : (planned : Planned) (r s : ℕ) (x : PartsValue) → mode_is_up x.mode ≡ true → Tied x → CanChange planned.change planned.reroutes planned.switches_on (plain_of x)
    → plain_of (altered planned r s x) ≡ apply_all (object_part planned x.defs.definitions).changes (plain_of x)
altered_view planned r s x up t can = altered_is planned r s x up ∙ follows_all planned.change planned.reroutes planned.switches_on x t can
