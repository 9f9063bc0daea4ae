-- Queues found and changed by name: what stays, and what is counted.
use Rattle.std.proofs.Common.{◌≡◌, ℕ, ◌+◌, ◌-◌, ◌<◌, ◌≤◌, ◌^◌, Bool, true, false, cond, List, [], ◌∷◌, refl, ap, arith, sym, subst, ◌∙◌}
use Rattle.std.specs.Prelude.{ℤ, Option, Some, None, IsSome, nat_le}
use Rattle.std.specs.List.{AllByRecursion}
use Rattle.std.specs.Str.{bytes_eq}
use Rattle.std.specs.Cmp.Lexicographic.{bytes_decides}
use Rattle.mq_place.specs.from_queue.Queues.{Lacks}
use Rattle.mq_place.specs.from_queue.Lanes.{lane_at}
use Rattle.mq_calls.specs.Words.{Ident, Message, Row, LocalQueue, Plain, has_ident, same_ident, is_by_priority, local_of, insert_row, set_queue, placed_in, place, lane_of, queue_in, try_if, try_trigger, made_due, depth_type, condition, puts_to}
use Rattle.mq_calls.specs.declared.state.Item.{Item}
use Rattle.mq_calls.specs.declared.state.Item.TheVariants.{Put, Take}
use Rattle.mq_calls.specs.State.{Queue as StateQueue}
use Rattle.mq_place.specs.States.{QueueState, queues_of, state_in, change_state, on_queue, state_or, or_fresh, arrived, IsNowhere}
use Rattle.mq_core.specs.Views.{PartsValue, plain_of}
use Rattle.mq_core.specs.Ties.{TiedBut, TiedWith, TiedIdents, IsReady, HasCounts, AreCounted, state_lanes, local_lanes, pending_at, times_in_rows, times_in_queues, waits, one_if}
use Rattle.mq_core.specs.Placing.{arrived_at, due_if, put_in_place}
use Rattle.mq_place.proofs.HomeLaws.{same_self}

pub name_is : (name other : List ℕ) → bytes_eq name other ≡ true → name ≡ other
name_is name other e = (bytes_decides name other).0 e

pub same_name : (name : List ℕ) → bytes_eq name name ≡ true
same_name name = (bytes_decides name name).1 refl

pub some_same : {X : Type 0} (a b : X) → Some a ≡ Some b → a ≡ b
some_same a b e = grind (arith, e)

true_false : true ≡ false → ⊥
true_false e = absurd cc

pub is_some_of : (o : Option QueueState) → IsSome o → (s : QueueState) × (o ≡ Some s)
is_some_of None h = absurd cc
is_some_of (Some s) h = (s, refl)

pub state_named : (name : List ℕ) (qs : List QueueState) (s : QueueState) → state_in name qs ≡ Some s → bytes_eq name s.queue.name ≡ true
state_named name [] s e = absurd cc
state_named name (q ∷ qs) s e = by (bytes_eq name q.queue.name) refl e (state_named name qs s)
  where
    by : (b : Bool) → bytes_eq name q.queue.name ≡ b → cond b (Some q) (state_in name qs) ≡ Some s → (state_in name qs ≡ Some s → bytes_eq name s.queue.name ≡ true) → bytes_eq name s.queue.name ≡ true
    by true n e rest = ap (λ (t : QueueState). bytes_eq name t.queue.name) (sym (some_same q s e)) ∙ n
    by false n e rest = rest e

pub queue_in_state : (name : List ℕ) (qs : List QueueState) (s : QueueState) → state_in name qs ≡ Some s → queue_in name (queues_of qs) ≡ s.queue
queue_in_state name [] s e = absurd cc
queue_in_state name (q ∷ qs) s e = by (bytes_eq name q.queue.name) e (queue_in_state name qs s)
  where
    by : (b : Bool) → cond b (Some q) (state_in name qs) ≡ Some s → (state_in name qs ≡ Some s → queue_in name (queues_of qs) ≡ s.queue) → cond b q.queue (queue_in name (queues_of qs)) ≡ s.queue
    by true e rest = ap (λ (t : QueueState). t.queue) (some_same q s e)
    by false e rest = rest e

-- the queue of a name is changed, and keeps its name
module _ (at : List ℕ) (f : QueueState → QueueState) (named : (s : QueueState) → (f s).queue.name ≡ s.queue.name) where
  pub state_other : (name : List ℕ) → bytes_eq name at ≡ false → (qs : List QueueState) → state_in name (change_state at f qs) ≡ state_in name qs
  state_other name ne [] = refl
  state_other name ne (s ∷ ss) = by (bytes_eq at s.queue.name) refl (state_other name ne ss)
    where
      behind : (b : Bool) → state_in name (change_state at f ss) ≡ state_in name ss → cond b (Some s) (state_in name (change_state at f ss)) ≡ cond b (Some s) (state_in name ss)
      behind true rest = refl
      behind false rest = rest

      by : (b : Bool) → bytes_eq at s.queue.name ≡ b → state_in name (change_state at f ss) ≡ state_in name ss → state_in name (cond b (f s ∷ ss) (s ∷ change_state at f ss)) ≡ state_in name (s ∷ ss)
      by true e rest =
          let other : bytes_eq name s.queue.name ≡ false = ap (bytes_eq name) (sym (name_is at s.queue.name e)) ∙ ne in
          ap (λ (b : Bool). cond b (Some (f s)) (state_in name ss)) (ap (bytes_eq name) (named s) ∙ other) ∙ ap (λ (b : Bool). cond b (Some s) (state_in name ss)) (sym other)
      by false e rest = behind (bytes_eq name s.queue.name) rest

  pub state_changed : (qs : List QueueState) (s : QueueState) → state_in at qs ≡ Some s → state_in at (change_state at f qs) ≡ Some (f s)
  state_changed [] s e = absurd cc
  state_changed (q ∷ qs) s e = by (bytes_eq at q.queue.name) refl e (state_changed qs s)
    where
      by : (b : Bool) → bytes_eq at q.queue.name ≡ b → cond b (Some q) (state_in at qs) ≡ Some s → (state_in at qs ≡ Some s → state_in at (change_state at f qs) ≡ Some (f s)) → state_in at (cond b (f q ∷ qs) (q ∷ change_state at f qs)) ≡ Some (f s)
      by true n e rest = ap (λ (b : Bool). cond b (Some (f q)) (state_in at qs)) (ap (bytes_eq at) (named q) ∙ n) ∙ ap (λ (t : QueueState). Some (f t)) (some_same q s e)
      by false n e rest = ap (λ (b : Bool). cond b (Some q) (state_in at (change_state at f qs))) n ∙ rest e

  -- what f keeps is seen at every name
  pub seen_kept : {A : Type 0} (g : Option QueueState → A) → ((s : QueueState) → g (Some (f s)) ≡ g (Some s)) → (name : List ℕ) (qs : List QueueState) (s : QueueState) → state_in at qs ≡ Some s → g (state_in name (change_state at f qs)) ≡ g (state_in name qs)
  seen_kept g same name qs s e = by (bytes_eq name at) refl
    where
      by : (b : Bool) → bytes_eq name at ≡ b → g (state_in name (change_state at f qs)) ≡ g (state_in name qs)
      by true n = subst (λ (k : List ℕ). g (state_in k (change_state at f qs)) ≡ g (state_in k qs)) (sym (name_is name at n)) (ap g (state_changed qs s e) ∙ same s ∙ ap g (sym e))
      by false n = ap g (state_other name n qs)

  -- puts that wait are one more, or one less
  pub pending_changed : (h : ℕ → ℕ) → ((s : QueueState) → (f s).pending ≡ h s.pending) → (name : List ℕ) (qs : List QueueState) (s : QueueState) → state_in at qs ≡ Some s
      → pending_at (state_in name (change_state at f qs)) ≡ cond (bytes_eq name at) (h (pending_at (state_in name qs))) (pending_at (state_in name qs))
  pending_changed h same name qs s e = by (bytes_eq name at) refl
    where
      by : (b : Bool) → bytes_eq name at ≡ b → pending_at (state_in name (change_state at f qs)) ≡ cond b (h (pending_at (state_in name qs))) (pending_at (state_in name qs))
      by true n = subst (λ (k : List ℕ). pending_at (state_in k (change_state at f qs)) ≡ h (pending_at (state_in k qs))) (sym (name_is name at n)) (ap pending_at (state_changed qs s e) ∙ same s ∙ ap (λ o. h (pending_at o)) (sym e))
      by false n = ap pending_at (state_other name n qs)

  -- as the plain manager sees it
  pub set_changed : (new : StateQueue) (qs : List QueueState) (s : QueueState) → state_in at qs ≡ Some s → (f s).queue ≡ new → new.name ≡ at → queues_of (change_state at f qs) ≡ set_queue new (queues_of qs)
  set_changed new [] s e is n = absurd cc
  set_changed new (q ∷ qs) s e is n = by (bytes_eq at q.queue.name) refl e (λ e. set_changed new qs s e is n)
    where
      by : (b : Bool) → bytes_eq at q.queue.name ≡ b → cond b (Some q) (state_in at qs) ≡ Some s → (state_in at qs ≡ Some s → queues_of (change_state at f qs) ≡ set_queue new (queues_of qs))
          → queues_of (cond b (f q ∷ qs) (q ∷ change_state at f qs)) ≡ cond (bytes_eq new.name q.queue.name) (new ∷ queues_of qs) (q.queue ∷ set_queue new (queues_of qs))
      by true m e rest =
          ap (λ (k : StateQueue). k ∷ queues_of qs) (ap (λ (t : QueueState). (f t).queue) (some_same q s e) ∙ is)
          ∙ ap (λ (b : Bool). cond b (new ∷ queues_of qs) (q.queue ∷ set_queue new (queues_of qs))) (sym (ap (λ (k : List ℕ). bytes_eq k q.queue.name) n ∙ m))
      by false m e rest =
          ap (λ (ks : List StateQueue). q.queue ∷ ks) (rest e)
          ∙ ap (λ (b : Bool). cond b (new ∷ queues_of qs) (q.queue ∷ set_queue new (queues_of qs))) (sym (ap (λ (k : List ℕ). bytes_eq k q.queue.name) n ∙ m))

  pub times_changed : (i : Ident) (d : ℕ) → ((s : QueueState) → times_in_rows i (f s).queue.rows ≡ d + times_in_rows i s.queue.rows) → (qs : List QueueState) (s : QueueState) → state_in at qs ≡ Some s
      → times_in_queues i (queues_of (change_state at f qs)) ≡ d + times_in_queues i (queues_of qs)
  times_changed i d same [] s e = absurd cc
  times_changed i d same (q ∷ qs) s e = by (bytes_eq at q.queue.name) e (times_changed i d same qs s)
    where
      by : (b : Bool) → cond b (Some q) (state_in at qs) ≡ Some s → (state_in at qs ≡ Some s → times_in_queues i (queues_of (change_state at f qs)) ≡ d + times_in_queues i (queues_of qs))
          → times_in_queues i (queues_of (cond b (f q ∷ qs) (q ∷ change_state at f qs))) ≡ d + (times_in_rows i q.queue.rows + times_in_queues i (queues_of qs))
      by true e rest = let one = same q in omega (arith, one)
      by false e rest = let more = rest e in omega (arith, more)

  pub counted_changed : (most : ℕ) (qs : List QueueState) (s : QueueState) → state_in at qs ≡ Some s → HasCounts most (f s) → ((name : List ℕ) (t : QueueState) → state_in name qs ≡ Some t → HasCounts most t)
      → (name : List ℕ) (t : QueueState) → state_in name (change_state at f qs) ≡ Some t → HasCounts most t
  counted_changed most qs s e ok h name t is = by (bytes_eq name at) refl
    where
      by : (b : Bool) → bytes_eq name at ≡ b → HasCounts most t
      by true n = subst (HasCounts most) (some_same (f s) t (sym (state_changed qs s e) ∙ ap (λ (k : List ℕ). state_in k (change_state at f qs)) (sym (name_is name at n)) ∙ is)) ok
      by false n = h name t (sym (state_other name n qs) ∙ is)

-- a row more
pub times_insert : (i : Ident) (new : Row) (rows : List Row) → times_in_rows i (insert_row new rows) ≡ one_if (has_ident i new) + times_in_rows i rows
times_insert i new [] = refl
times_insert i new (row ∷ rows) = by (nat_le row.place.lane new.place.lane) (times_insert i new rows)
  where
    by : (b : Bool) → times_in_rows i (insert_row new rows) ≡ one_if (has_ident i new) + times_in_rows i rows
        → times_in_rows i (cond b (row ∷ insert_row new rows) (new ∷ row ∷ rows)) ≡ one_if (has_ident i new) + (one_if (has_ident i row) + times_in_rows i rows)
    by true rest = omega (arith, rest)
    by false rest = refl

-- an ident that stands nowhere
lacks_of : (i : Ident) (rows : List Row) → times_in_rows i rows ≡ 0 → Lacks i rows
lacks_of i [] e = tt
lacks_of i (row ∷ rows) e = by (has_ident i row) refl e (lacks_of i rows)
  where
    by : (b : Bool) → has_ident i row ≡ b → one_if b + times_in_rows i rows ≡ 0 → (times_in_rows i rows ≡ 0 → Lacks i rows) → Lacks i (row ∷ rows)
    by true h e rest = absurd (omega (arith, e))
    by false h e rest = (h, rest (omega (arith, e)))

pub nowhere_of : (i : Ident) (qs : List QueueState) → times_in_queues i (queues_of qs) ≡ 0 → IsNowhere i qs
nowhere_of i [] e = tt
nowhere_of i (s ∷ ss) e = (lacks_of i s.queue.rows (omega (arith, e)), nowhere_of i ss (omega (arith, e)))

all_at : (P : QueueState → Type 0) (name : List ℕ) (qs : List QueueState) (s : QueueState) → state_in name qs ≡ Some s → AllByRecursion P qs → P s
all_at P name [] s e h = absurd cc
all_at P name (q ∷ qs) s e h = by (bytes_eq name q.queue.name) e (all_at P name qs s)
  where
    by : (b : Bool) → cond b (Some q) (state_in name qs) ≡ Some s → (state_in name qs ≡ Some s → AllByRecursion P qs → P s) → P s
    by true e rest = subst P (some_same q s e) h.0
    by false e rest = rest e h.1

-- a put that is on the way can be placed
ready_at : (most : ℕ) (queue : List ℕ) (m : Message) (x : PartsValue) (s : QueueState) → most + 1 < 2 ^ 64 → AreCounted most x → times_in_queues m.ident (queues_of x.queues.states) ≡ 0 → state_in queue x.queues.states ≡ Some s → 0 < s.pending
    → (o : Option LocalQueue) → local_of queue x.defs.definitions ≡ o → Some s.by_priority ≡ local_lanes o → IsReady queue m x
ready_at most queue m x s small counts none is wait None defined lanes = absurd cc
ready_at most queue m x s small counts none is wait (Some q) defined lanes =
    let counted = counts queue s is in
    let nowhere = nowhere_of m.ident x.queues.states none in
    record {
      state = s;
      local = q;
      is = is;
      defined = defined;
      lanes = some_same s.by_priority (is_by_priority q.delivery) lanes;
      can = record { expected = wait; fresh = all_at (λ (s : QueueState). Lacks m.ident s.queue.rows) queue x.queues.states s is nowhere; count = omega (arith, counted.arrivals, wait, small) };
      fresh = nowhere;
      due = omega (arith, counted.due, wait, small);
    }

pub ready_by : (most : ℕ) (queue : List ℕ) (m : Message) (x : PartsValue) (w : ℕ) → most + 1 < 2 ^ 64 → AreCounted most x → times_in_queues m.ident (queues_of x.queues.states) ≡ 0
    → (o : Option QueueState) → state_in queue x.queues.states ≡ o → pending_at o ≡ w + 1 → state_lanes o ≡ local_lanes (local_of queue x.defs.definitions) → IsReady queue m x
ready_by most queue m x w small counts none None is pending lanes = absurd (omega (arith, pending))
ready_by most queue m x w small counts none (Some s) is pending lanes = ready_at most queue m x s small counts none is (omega (arith, pending)) (local_of queue x.defs.definitions) refl lanes

pub ready : (most : ℕ) (queue : List ℕ) (m : Message) (items : List Item) (x : PartsValue) → most + 1 < 2 ^ 64 → AreCounted most x → TiedBut (Put queue m ∷ items) x → IsReady queue m x
ready most queue m items x small counts t =
    let here : one_if (bytes_eq queue queue) ≡ 1 = ap one_if (same_name queue) in
    let own : one_if (same_ident m.ident m.ident) ≡ 1 = ap one_if (same_self m.ident) in
    let once = t.idents.once m.ident in
    let pending = t.queues.pending queue in
    ready_by most queue m x (puts_to queue x.desk.live + waits queue items) small counts (omega (arith, own, once)) (state_in queue x.queues.states) refl (omega (arith, pending, here)) (t.queues.lanes queue)

-- the view of a put that is placed
with_queues : Plain → List StateQueue → Plain
with_queues p qs = record p { queues = qs }

lane_is : (o : Option LocalQueue) (q : LocalQueue) (b : Bool) (priority : ℤ) → o ≡ Some q → b ≡ is_by_priority q.delivery → cond b (lane_at priority) 0 ≡ lane_of o priority
lane_is None q b priority e l = absurd cc
lane_is (Some p) q b priority e l = ap (λ (b : Bool). cond b (lane_at priority) 0) (l ∙ ap (λ (q : LocalQueue). is_by_priority q.delivery) (sym (some_same p q e)))

placed_with : ℕ → Message → StateQueue → StateQueue
placed_with lane m q = placed_in lane m q

pub arrived_view : (queue : List ℕ) (m : Message) (x : PartsValue) → IsReady queue m x → plain_of (arrived_at queue m x) ≡ place queue m (plain_of x)
unfolding with_queues placed_with
arrived_view queue m x r =
    let lane = lane_is (local_of queue x.defs.definitions) r.local r.state.by_priority m.md.priority r.defined r.lanes in
    let named = name_is queue r.state.queue.name (state_named queue x.queues.states r.state r.is) in
    let is = ap (λ (n : ℕ). placed_with n m r.state.queue) lane ∙ ap (placed_with (lane_of (local_of queue x.defs.definitions) m.md.priority) m) (sym (queue_in_state queue x.queues.states r.state r.is)) in
    ap (with_queues (plain_of x)) (set_changed queue (arrived m) (λ s. refl) _ x.queues.states r.state r.is is (ap (λ (q : StateQueue). q.name) (queue_in_state queue x.queues.states r.state r.is) ∙ sym named))

-- the view of a trigger that is tried
due_view : (b : Bool) (queue : List ℕ) (x : PartsValue) (s : QueueState) → state_in queue x.queues.states ≡ Some s → plain_of (due_if b queue x) ≡ try_if b queue (plain_of x)
unfolding with_queues
due_view false queue x s e = refl
due_view true queue x s e =
    let named = name_is queue s.queue.name (state_named queue x.queues.states s e) in
    let depth = depth_type (local_of queue x.defs.definitions) in
    ap (with_queues (plain_of x)) (set_changed queue (on_queue (made_due depth x.moment)) (λ s. refl) _ x.queues.states s e (ap (λ (q : StateQueue). made_due depth x.moment q) (sym (queue_in_state queue x.queues.states s e))) (ap (λ (q : StateQueue). q.name) (queue_in_state queue x.queues.states s e) ∙ sym named))

pub arrived_there : (queue : List ℕ) (m : Message) (x : PartsValue) → (r : IsReady queue m x) → state_in queue (arrived_at queue m x).queues.states ≡ Some (arrived m r.state)
arrived_there queue m x r = state_changed queue (arrived m) (λ s. refl) x.queues.states r.state r.is

try_of : List ℕ → ℤ → Plain → Plain
try_of queue priority p = try_trigger queue priority p

pub placed_view : (queue : List ℕ) (m : Message) (x : PartsValue) → IsReady queue m x → plain_of (put_in_place queue m x) ≡ try_trigger queue m.md.priority (place queue m (plain_of x))
unfolding try_of
placed_view queue m x r =
    let y = arrived_at queue m x in
    due_view (condition (local_of queue y.defs.definitions) m.md.priority (plain_of y)) queue y (arrived m r.state) (arrived_there queue m x r)
    ∙ ap (try_of queue m.md.priority) (arrived_view queue m x r)

-- what ties the parts after it
pub waits_less : (b : Bool) (a w n : ℕ) → n ≡ a + (one_if b + w) → cond b (n - 1) n ≡ a + w
waits_less true a w n e = omega (arith, e)
waits_less false a w n e = omega (arith, e)

-- the idents aside
pub arrived_but : (queue : List ℕ) (m : Message) (waiting old new : List Item) (x : PartsValue) → IsReady queue m x → TiedIdents new (arrived_at queue m x) → TiedWith (Put queue m ∷ waiting) old x → TiedWith waiting new (arrived_at queue m x)
arrived_but queue m waiting old new x r apart t = record {
  up = λ u. let w = t.up u in record { live = w.live; settled = w.settled; ends = w.ends; room = w.room; body = w.body };
  reserved = t.reserved;
  within = t.within;
  queues = record {
    lanes = λ name. seen_kept queue (arrived m) (λ s. refl) state_lanes (λ s. refl) name x.queues.states r.state r.is ∙ t.queues.lanes name;
    pending = λ name. pending_changed queue (arrived m) (λ s. refl) (λ n. n - 1) (λ s. refl) name x.queues.states r.state r.is ∙ waits_less (bytes_eq name queue) _ (waits name waiting) _ (t.queues.pending name);
  };
  idents = apart;
  forced = t.forced;
  max = t.max;
  moment = t.moment;
}

pub tied_arrived : (queue : List ℕ) (m : Message) (items : List Item) (x : PartsValue) → IsReady queue m x → TiedBut (Put queue m ∷ items) x → TiedBut items (arrived_at queue m x)
tied_arrived queue m items x r t =
    let times = λ (i : Ident). times_changed queue (arrived m) (λ s. refl) i (one_if (same_ident m.ident i)) (λ s. times_insert i _ s.queue.rows) x.queues.states r.state r.is in
    arrived_but queue m items (Put queue m ∷ items) items x r (record {
      once = λ i. let more = times i in let old = t.idents.once i in omega (arith, more, old);
      given = λ i a b c. let more = times i in let old = t.idents.given i a b c in omega (arith, more, old);
    }) t

-- a trigger that falls due touches nothing of what ties the parts
pub tied_due : (b : Bool) (queue : List ℕ) (waiting standing : List Item) (x : PartsValue) (s : QueueState) → state_in queue x.queues.states ≡ Some s → TiedWith waiting standing x → TiedWith waiting standing (due_if b queue x)
tied_due false queue waiting standing x s e t = t
tied_due true queue waiting standing x s e t =
    let f = on_queue (made_due (depth_type (local_of queue x.defs.definitions)) x.moment) in
    let times = λ (i : Ident). times_changed queue f (λ s. refl) i 0 (λ s. omega arith) x.queues.states s e in
    record {
      up = λ u. let w = t.up u in record { live = w.live; settled = w.settled; ends = w.ends; room = w.room; body = w.body };
      reserved = t.reserved;
      within = t.within;
      queues = record {
        lanes = λ name. seen_kept queue f (λ s. refl) state_lanes (λ s. refl) name x.queues.states s e ∙ t.queues.lanes name;
        pending = λ name. seen_kept queue f (λ s. refl) pending_at (λ s. refl) name x.queues.states s e ∙ t.queues.pending name;
      };
      idents = record {
        once = λ i. let same = times i in let old = t.idents.once i in omega (arith, same, old);
        given = λ i a b c. let same = times i in let old = t.idents.given i a b c in omega (arith, same, old);
      };
      forced = t.forced;
      max = t.max;
      moment = t.moment;
    }

pub tied_placed : (queue : List ℕ) (m : Message) (items : List Item) (x : PartsValue) → IsReady queue m x → TiedBut (Put queue m ∷ items) x → TiedBut items (put_in_place queue m x)
tied_placed queue m items x r t =
    let y = arrived_at queue m x in
    tied_due (condition (local_of queue y.defs.definitions) m.md.priority (plain_of y)) queue items items y (arrived m r.state) (arrived_there queue m x r) (tied_arrived queue m items x r t)

-- a row that does not wait is no matter
pub tied_take : (queue : List ℕ) (ident : Ident) (persistent : Bool) (items : List Item) (x : PartsValue) → TiedBut (Take queue ident persistent ∷ items) x → TiedBut items x
tied_take queue ident persistent items x t = record {
  up = t.up;
  reserved = t.reserved;
  within = t.within;
  queues = record { lanes = t.queues.lanes; pending = t.queues.pending };
  idents = record { once = t.idents.once; given = t.idents.given };
  forced = t.forced;
  max = t.max;
  moment = t.moment;
}

-- it may still be counted
counted_due : (b : Bool) (most : ℕ) (queue : List ℕ) (x : PartsValue) (s : QueueState) → state_in queue x.queues.states ≡ Some s → s.queue.due + 1 + s.pending ≤ most → AreCounted most x → AreCounted most (due_if b queue x)
counted_due false most queue x s e due h = h
counted_due true most queue x s e due h = counted_changed queue (on_queue (made_due (depth_type (local_of queue x.defs.definitions)) x.moment)) (λ s. refl) most x.queues.states s e (record { arrivals = (h queue s e).arrivals; due = due }) h

pub counts_placed : (most : ℕ) (queue : List ℕ) (m : Message) (x : PartsValue) → IsReady queue m x → AreCounted most x → AreCounted most (put_in_place queue m x)
counts_placed most queue m x r h =
    let y = arrived_at queue m x in
    let wait = r.can.expected in
    let one = counted_changed queue (arrived m) (λ s. refl) most x.queues.states r.state r.is (record { arrivals = omega (arith, (h queue r.state r.is).arrivals, wait); due = omega (arith, (h queue r.state r.is).due) }) h in
    counted_due (condition (local_of queue y.defs.definitions) m.md.priority (plain_of y)) most queue y (arrived m r.state) (arrived_there queue m x r)
    (omega (arith, (h queue r.state r.is).due, wait)) one

-- one trigger more is counted
pub due_next : (queue : List ℕ) (m : Message) (x : PartsValue) → IsReady queue m x → (state_or queue (change_state queue (arrived m) x.queues.states)).queue.due + 1 < 2 ^ 64
due_next queue m x r = subst (λ (o : Option QueueState). (or_fresh queue o).queue.due + 1 < 2 ^ 64) (sym (arrived_there queue m x r)) r.due
