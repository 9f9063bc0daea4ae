-- A trigger turn: a trigger is served, and its message takes its place.
use Rattle.std.proofs.Common.{◌≡◌, ℕ, ◌+◌, ◌^◌, Bool, true, false, cond, List, [], ◌∷◌, refl, ap, arith, sym, subst, ◌∙◌}
use Rattle.std.specs.Prelude.{Option, Some, None, Result, Ok, Err, IsSome, nat_lt}
use Rattle.std.specs.Str.{bytes_eq}
use Rattle.mq_base.specs.declared.want.NoMemory.{NoMemory}
use Rattle.mq_objects.specs.declared.object.Object.{Object}
use Rattle.mq_objects.specs.declared.object.Object.TheVariants as objects
use Rattle.mq_objects.specs.Names.{object_in, as_local, is_object}
use Rattle.mq_objects.specs.Names.Space.{Queues}
use Rattle.mq_calls.specs.State.{Queue as StateQueue}
use Rattle.mq_calls.specs.Words.{Part, say, stored, is_up, locals_of, process_of, Ident, Message, LocalQueue, Plain, Do, Meets, local_of, place, apply, apply_all, set_queue, Definitions}
use Rattle.mq_calls.specs.declared.state.Item.{Item}
use Rattle.mq_core.specs.Counting.{CanCount}
use Rattle.mq_calls.specs.declared.state.Item.TheVariants.{Put}
use Rattle.mq_calls.specs.declared.commands.Halt.TheVariants as halts
use Rattle.mq_calls.specs.State.Change.{CountIdent, Serve}
use Rattle.mq_place.specs.States.{QueueState, queues_of, state_in, change_state, on_queue, served}
use Rattle.mq_core.specs.Views.{PartsValue, plain_of}
use Rattle.mq_core.specs.Values.{CoreValue, WritesLog, begun_call, manager_of}
use Rattle.mq_core.specs.Ties.{TiedBut, Tied, IsReady, AreCounted, state_lanes, pending_at, times_in_rows, times_in_queues}
use Rattle.mq_core.specs.Placing.{arrived_at}
use Rattle.mq_core.specs.Forced.{IsExpected}
use Rattle.mq_core.proofs.PlaceLaws.{name_is, some_same, state_named, queue_in_state, set_changed, counted_changed, ready, arrived_view, tied_arrived}
use Rattle.mq_core.proofs.ReadLaws.{queue_none}
use Rattle.mq_core.proofs.PutLaws.{OnWay, tied_on_way, way_counts, expected_view}
use Rattle.mq_spec_manager.specs.Triggers.{trigger_turn, trigger_at, serve, serve_by, first_due}
use Rattle.mq_steer.specs.declared.triggers.Sending.{Sending}
use Rattle.mq_steer.specs.declared.triggers.Serving.{Serving}
use Rattle.mq_steer.specs.Due.{name_if, due_where, next_due}
use Rattle.mq_steer.specs.Turns.{sent_part, IsDue, CanSend, Serves, ServesBy, IsServed, IsServedBy, IsServedOr, served_at, numbered}
use Rattle.mq_steer.proofs.RestLaws.{seen_changed}

true_false : true ≡ false → ⊥
true_false e = absurd cc

-- a queue with a trigger due is there
pub due_there : (from : List ℕ) (x : PartsValue) → IsDue from (plain_of x) → (s : QueueState) × (state_in from x.queues.states ≡ Some s)
due_there from x due = by (state_in from x.queues.states) refl
  where
    by : (o : Option QueueState) → state_in from x.queues.states ≡ o → (s : QueueState) × (state_in from x.queues.states ≡ Some s)
    by (Some s) e = (s, e)
    by None e = absurd (true_false (sym due ∙ ap (λ (q : StateQueue). nat_lt 0 q.due) (queue_none from x.queues.states e)))

abbrev with_queues : Plain → List StateQueue → Plain
with_queues p qs = record p { queues = qs }

-- a trigger that is served, as the plain manager sees it
pub served_view : (from : List ℕ) (x : PartsValue) → IsDue from (plain_of x) → plain_of (served_at from x) ≡ apply (Serve from) (plain_of x)
served_view from x due =
    let found = due_there from x due in
    let named : found.0.queue.name ≡ from = sym (name_is from found.0.queue.name (state_named from x.queues.states found.0 found.1)) in
    ap (with_queues (plain_of x)) (
    set_changed from (on_queue served) (λ s. refl) (served found.0.queue) x.queues.states found.0 found.1 refl named
    ∙ ap (λ (q : StateQueue). set_queue (served q) (queues_of x.queues.states)) (sym (queue_in_state from x.queues.states found.0 found.1)))

times_served : (i : Ident) (from : List ℕ) (qs : List QueueState) → times_in_queues i (queues_of (change_state from (on_queue served) qs)) ≡ times_in_queues i (queues_of qs)
times_served i from [] = refl
times_served i from (s ∷ ss) = by (bytes_eq from s.queue.name) (times_served i from ss)
  where
    by : (b : Bool) → times_in_queues i (queues_of (change_state from (on_queue served) ss)) ≡ times_in_queues i (queues_of ss)
        → times_in_queues i (queues_of (cond b (on_queue served s ∷ ss) (s ∷ change_state from (on_queue served) ss))) ≡ times_in_queues i (queues_of (s ∷ ss))
    by true rest = refl
    by false rest = ap (λ (n : ℕ). times_in_rows i s.queue.rows + n) rest

pub tied_served : (from : List ℕ) (items : List Item) (x : PartsValue) → TiedBut items x → TiedBut items (served_at from x)
tied_served from items x t = record {
  up = λ u. let w = t.up u in record { live = w.live; settled = w.settled; ends = w.ends; room = w.room; body = w.body };
  reserved = t.reserved;
  within = t.within;
  queues = record {
    lanes = λ name. seen_changed from (on_queue served) (λ s. refl) state_lanes (λ s. refl) name x.queues.states ∙ t.queues.lanes name;
    pending = λ name. seen_changed from (on_queue served) (λ s. refl) pending_at (λ s. refl) name x.queues.states ∙ t.queues.pending name;
  };
  idents = record {
    once = λ i. let same = times_served i from x.queues.states in let old = t.idents.once i in omega (arith, same, old);
    given = λ i a b c. let same = times_served i from x.queues.states in let old = t.idents.given i a b c in omega (arith, same, old);
  };
  forced = t.forced;
  max = t.max;
  moment = t.moment;
}

counts_served : (most : ℕ) (from : List ℕ) (x : PartsValue) → IsDue from (plain_of x) → AreCounted most x → AreCounted most (served_at from x)
counts_served most from x due h =
    let found = due_there from x due in
    let c = h from found.0 found.1 in
    counted_changed from (on_queue served) (λ s. refl) most x.queues.states found.0 found.1 (record { arrivals = c.arrivals; due = omega (arith, c.due) }) h

abbrev numbered_with : PartsValue → PartsValue → PartsValue
numbered_with y z = record z { idents = z.idents + 1; log = y.log; body = y.body }

pub on_way : (to : List ℕ) (m : Message) (x y : PartsValue) → CanSend to m (plain_of x) → IsExpected to 0 x y → Tied x → OnWay to m x (numbered y)
on_way to m x y can e t = record {
  same = ap (numbered_with y) e.same;
  live = ap (λ (z : PartsValue). z.log.live) e.same;
  settled = ap (λ (z : PartsValue). z.log.pending) e.same;
  spare = ap (λ (z : PartsValue). z.log.spare) e.same;
  reserved = ap (λ (z : PartsValue). z.log.reserved) e.same;
  max = ap (λ (z : PartsValue). z.log.max) e.same;
  room = λ u. let w = (t.up u).room in omega (arith, w, e.more);
  body = λ u. let w = (t.up u).body in omega (arith, w, e.body);
  ident = can.ident;
}

due_on_way : (from to : List ℕ) (x y : PartsValue) → IsExpected to 0 x y → IsDue from (plain_of x) → IsDue from (plain_of (numbered y))
due_on_way from to x y e due = subst (λ (p : Plain). IsDue from p) (sym (expected_view to 0 x y e)) due

pub turn_ready : (from to : List ℕ) (m : Message) (x y : PartsValue) → CanCount (plain_of x) → IsDue from (plain_of x) → CanSend to m (plain_of x) → IsExpected to 0 x y → Tied x → IsReady to m (served_at from (numbered y))
turn_ready from to m x y low due can e t =
    let way = on_way to m x y can e t in
    ready (2 ^ 63 + 1) to m [] (served_at from (numbered y)) (omega arith)
    (counts_served (2 ^ 63 + 1) from (numbered y) (due_on_way from to x y e due) (way_counts to m x (numbered y) can.there way t low))
    (tied_served from (Put to m ∷ []) (numbered y) (tied_on_way to m x (numbered y) can.there way t))

pub turn_tied : (from to : List ℕ) (m : Message) (x y : PartsValue) → CanCount (plain_of x) → IsDue from (plain_of x) → CanSend to m (plain_of x) → IsExpected to 0 x y → Tied x → Tied (arrived_at to m (served_at from (numbered y)))
turn_tied from to m x y low due can e t =
    tied_arrived to m [] (served_at from (numbered y)) (turn_ready from to m x y low due can e t) (tied_served from (Put to m ∷ []) (numbered y) (tied_on_way to m x (numbered y) can.there (on_way to m x y can e t) t))

abbrev place_served : List ℕ → List ℕ → Message → Plain → Plain
place_served from to m p = place to m (apply (Serve from) (apply CountIdent p))

pub turn_view : (from to : List ℕ) (m : Message) (x y : PartsValue) → CanCount (plain_of x) → IsDue from (plain_of x) → CanSend to m (plain_of x) → IsExpected to 0 x y → Tied x
    → plain_of (arrived_at to m (served_at from (numbered y))) ≡ apply_all (sent_part from to m).changes (plain_of x)
turn_view from to m x y low due can e t =
    arrived_view to m (served_at from (numbered y)) (turn_ready from to m x y low due can e t)
    ∙ ap (place to m) (served_view from (numbered y) (due_on_way from to x y e due))
    ∙ ap (place_served from to m) (expected_view to 0 x y e)

-- want of memory
pub turn_wants : (v new : CoreValue) → new ≡ begun_call v → Meets (manager_of v) (trigger_turn v.plain) (Err halts.NoMemory) (manager_of new)
turn_wants v new e = by_up (is_up v.plain.running)
  where
    by_due : (o : Option LocalQueue) → Meets (manager_of v) (serve o v.plain) (Err halts.NoMemory) (manager_of new)
    by_due None = ap manager_of e
    by_due (Some q) = ap manager_of e

    by_up : (b : Bool) → Meets (manager_of v) (trigger_at b v.plain) (Err halts.NoMemory) (manager_of new)
    by_up false = ap manager_of e
    by_up true = by_due (first_due (locals_of v.plain.definitions) v.plain)

pub turn_writes : (v new : CoreValue) → new ≡ begun_call v → WritesLog v (trigger_turn v.plain) (Err halts.NoMemory) new
turn_writes v new e = by_up (is_up v.plain.running)
  where
    by_due : (o : Option LocalQueue) → WritesLog v (serve o v.plain) (Err halts.NoMemory) new
    by_due None = ap (λ (w : CoreValue). w.log) e
    by_due (Some q) = ap (λ (w : CoreValue). w.log) e

    by_up : (b : Bool) → WritesLog v (trigger_at b v.plain) (Err halts.NoMemory) new
    by_up false = ap (λ (w : CoreValue). w.log) e
    by_up true = by_due (first_due (locals_of v.plain.definitions) v.plain)

-- the queue that is found has the name
pub local_name : (name : List ℕ) (os : List Object) (q : LocalQueue) → as_local (object_in Queues name os) ≡ Some q → bytes_eq name q.name ≡ true
local_name name [] q e = absurd cc
local_name name (o ∷ os) q e = by (is_object Queues name o) refl e (local_name name os q)
  where
    here : (o : Object) → is_object Queues name o ≡ true → as_local (Some o) ≡ Some q → bytes_eq name q.name ≡ true
    here (objects.Local p) n e = ap (λ (l : LocalQueue). bytes_eq name l.name) (sym (some_same p q e)) ∙ n
    here (objects.Alias p) n e = absurd cc
    here (objects.Remote p) n e = absurd cc
    here (objects.Channel p) n e = absurd cc
    here (objects.Process p) n e = absurd cc

    by : (b : Bool) → is_object Queues name o ≡ b → as_local (cond b (Some o) (object_in Queues name os)) ≡ Some q → (as_local (object_in Queues name os) ≡ Some q → bytes_eq name q.name ≡ true) → bytes_eq name q.name ≡ true
    by true n e rest = here o n e
    by false n e rest = rest e

pub local_there : (name : List ℕ) (d : Definitions) (q : LocalQueue) → local_of name d ≡ Some q → IsSome (local_of q.name d)
local_there name d q e = subst (λ (n : List ℕ). IsSome (local_of n d)) (name_is name q.name (local_name name d.objects q e)) (subst IsSome (sym e) refl)

-- the first queue with a trigger due has one due
first_is_due : (p : Plain) (qs : List LocalQueue) (q : LocalQueue) → first_due qs p ≡ Some q → IsDue q.name p
first_is_due p [] q e = absurd cc
first_is_due p (x ∷ qs) q e = by (nat_lt 0 (stored x.name p).due) refl e (first_is_due p qs q)
  where
    by : (b : Bool) → nat_lt 0 (stored x.name p).due ≡ b → cond b (Some x) (first_due qs p) ≡ Some q → (first_due qs p ≡ Some q → IsDue q.name p) → IsDue q.name p
    by true d e rest = let is = some_same x q e in subst (λ (l : LocalQueue). IsDue l.name p) is d
    by false d e rest = rest e

pub turn_is : (p : Plain) (q : LocalQueue) (serving : Serving) → is_up p.running ≡ true → first_due (locals_of p.definitions) p ≡ Some q
    → Serves q.name (serve_by q (process_of q.process p.definitions) (local_of q.initiation_queue p.definitions) p) p (Ok serving) → IsServed p serving
turn_is p q serving up first h =
    let turn : trigger_turn p ≡ Do true (serve_by q (process_of q.process p.definitions) (local_of q.initiation_queue p.definitions) p ∷ []) = (λ i. trigger_at (up i) p) ∙ ap (λ (o : Option LocalQueue). serve o p) first in (
      subst (λ (n : List ℕ). IsDue n p) (sym h.0) (first_is_due p (locals_of p.definitions) q first),
      subst (λ (n : List ℕ). IsServedBy p n serving.sending) (sym h.0) (by serving.sending h.1 turn),
    )
  where
    by : (o : Option Sending) → ServesBy (serve_by q (process_of q.process p.definitions) (local_of q.initiation_queue p.definitions) p) p q.name o
        → trigger_turn p ≡ Do true (serve_by q (process_of q.process p.definitions) (local_of q.initiation_queue p.definitions) p ∷ []) → IsServedBy p q.name o
    by None h t = t ∙ ap (λ (part : Part). Do true (part ∷ [])) h
    by (Some sending) h t = (t ∙ ap (λ (part : Part). Do true (part ∷ [])) h.0, h.1)

pub turn_by : (p : Plain) (q : LocalQueue) (r : Result Serving NoMemory) → is_up p.running ≡ true → first_due (locals_of p.definitions) p ≡ Some q
    → Serves q.name (serve_by q (process_of q.process p.definitions) (local_of q.initiation_queue p.definitions) p) p r → IsServedOr p r
turn_by p q (Ok serving) up first h = turn_is p q serving up first h
turn_by p q (Err e) up first h = tt

pub turn_down : (p : Plain) → is_up p.running ≡ false → trigger_turn p ≡ say false
turn_down p down = λ i. trigger_at (down i) p

pub turn_none : (p : Plain) → is_up p.running ≡ true → first_due (locals_of p.definitions) p ≡ None → trigger_turn p ≡ say false
turn_none p up none = (λ i. trigger_at (up i) p) ∙ ap (λ (o : Option LocalQueue). serve o p) none

-- the queue whose trigger is served next
pub due_down : (p : Plain) → is_up p.running ≡ false → None ≡ next_due p
due_down p down = sym (ap (λ (b : Bool). due_where b p) down)

pub due_none : (p : Plain) → is_up p.running ≡ true → None ≡ first_due (locals_of p.definitions) p → None ≡ next_due p
due_none p up e = ap name_if e ∙ sym (ap (λ (b : Bool). due_where b p) up)

pub due_some : (p : Plain) (q : LocalQueue) → is_up p.running ≡ true → Some q ≡ first_due (locals_of p.definitions) p → Some q.name ≡ next_due p
due_some p q up e = ap name_if e ∙ sym (ap (λ (b : Bool). due_where b p) up)
