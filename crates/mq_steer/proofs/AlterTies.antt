-- Behind a change of objects the parts are tied.
use Rattle.std.proofs.Common.{◌≡◌, ℕ, ◌+◌, ◌≤◌, Bool, true, false, cond, List, [], ◌∷◌, ◌++◌, length, refl, ap, arith, sym, subst, ◌∙◌}
use Rattle.std.specs.Prelude.{Option, Some, None, map, not, nat_lt, sum_by, count_by}
use Rattle.std.specs.Str.{bytes_eq}
use Rattle.std.proofs.lemmas.Bool.Decides.{nat_tests}
use Rattle.std.proofs.lemmas.List.Sums.{sum_by-cons}
use Rattle.mq_objects.specs.declared.object.LocalQueue.{LocalQueue}
use Rattle.mq_objects.specs.declared.object.Object.{Object}
use Rattle.mq_objects.specs.declared.object.Object.TheVariants as objects
use Rattle.mq_objects.specs.declared.object.Definitions.{Definitions}
use Rattle.mq_objects.specs.declared.command.Subject.TheVariants as subjects
use Rattle.mq_objects.specs.declared.change.ObjectChange.{ObjectChange}
use Rattle.mq_objects.specs.declared.change.ObjectChange.TheVariants as changes
use Rattle.mq_objects.specs.Names.{Queues, Channels, Processes, object_in, as_local, is_kind, local_of, is_by_priority}
use Rattle.mq_objects.specs.Changed.{changed}
use Rattle.mq_resolve.specs.declared.route.PathStep.{PathStep}
use Rattle.mq_resolve.specs.declared.route.PathStep.TheVariants as steps
use Rattle.mq_sc_apply.specs.declared.answers.Planned.{Planned}
use Rattle.mq_sc_apply.specs.Planned.{is_filled}
use Rattle.mq_spec_manager.specs.Commands.{uses_of}
use Rattle.mq_calls.specs.Words.{Ident, Row, queue_in, made_stale, puts_to, unit_need}
use Rattle.mq_calls.specs.declared.state.Item.{Item}
use Rattle.mq_calls.specs.declared.state.Connection.{Connection}
use Rattle.mq_calls.specs.Reads.{is_put_to}
use Rattle.mq_law_manager.specs.Facts.{AreOnce, is_local}
use Rattle.mq_law_manager.proofs.Objects.{set_found, delete_found}
use Rattle.mq_core.specs.from_handles.Desks.{Desk}
use Rattle.mq_place.specs.States.{QueueState, queues_of, state_in, change_state, on_queue, switched_on, with_lanes, fresh_state, without_state}
use Rattle.mq_core.specs.Views.{PartsValue, plain_of}
use Rattle.mq_core.specs.Ties.{Tied, SameUnits, state_lanes, local_lanes, pending_at, times_in_rows, times_in_queues, times_in_units, times_in_unit, AreForced}
use Rattle.mq_core.proofs.PlaceLaws.{name_is, some_same, state_changed, state_other}
use Rattle.mq_core.proofs.SeatLaws.{same_units}
use Rattle.mq_steer.specs.Altered.{CanDelete, CanChange, renewed_states, switched_states, stale_desk, states_after, desk_after, altered}
use Rattle.mq_steer.proofs.RestLaws.{seen_changed}
use Rattle.mq_steer.proofs.TurnLaws.{local_name}
use Rattle.mq_steer.proofs.AlterLaws.{undefined_none, defined_some}

true_false : true ≡ false → ⊥
true_false e = absurd cc

-- ---- units are as they were

module _ (step : PathStep) where
  stale_sum : (g : List Item → ℕ) (cs : List Connection) → sum_by (λ (c : Connection). g c.unit) (map (made_stale step) cs) ≡ sum_by (λ (c : Connection). g c.unit) cs
  stale_sum g [] = refl
  stale_sum g (c ∷ cs) =
      sum_by-cons (λ (c : Connection). g c.unit) (made_stale step c) (map (made_stale step) cs)
      ∙ ap (λ (k : ℕ). g c.unit + k) (stale_sum g cs)
      ∙ sym (sum_by-cons (λ (c : Connection). g c.unit) c cs)

  stale_times : (i : Ident) (cs : List Connection) → times_in_units i (map (made_stale step) cs) ≡ times_in_units i cs
  stale_times i [] = refl
  stale_times i (c ∷ cs) = ap (λ (k : ℕ). times_in_unit i c.unit + k) (stale_times i cs)

  stale_forced : (cs : List Connection) → AreForced cs → AreForced (map (made_stale step) cs)
  stale_forced [] h = tt
  stale_forced (c ∷ cs) h = (h.0, stale_forced cs h.1)

  stale_units : (cs : List Connection) → SameUnits cs (map (made_stale step) cs)
  stale_units cs = record { need = stale_sum unit_need cs; puts = λ name. stale_sum (count_by (is_put_to name)) cs; times = λ i. stale_times i cs; forced = stale_forced cs }

  stale_if_units : (b : Bool) (desk : Desk) → SameUnits desk.live (stale_desk b step desk).live
  stale_if_units true desk = stale_units desk.live
  stale_if_units false desk = same_units desk.live

desk_units : (change : ObjectChange) (reroutes : Bool) (desk : Desk) → SameUnits desk.live (desk_after change reroutes desk).live
desk_units (changes.Set (objects.Local q)) reroutes desk = stale_if_units (steps.Queue q.name) reroutes desk
desk_units (changes.Set (objects.Alias q)) reroutes desk = stale_if_units (steps.Queue q.name) reroutes desk
desk_units (changes.Set (objects.Remote q)) reroutes desk = stale_if_units (steps.Queue q.name) reroutes desk
desk_units (changes.Set (objects.Channel q)) reroutes desk = stale_if_units (steps.Queue q.name) reroutes desk
desk_units (changes.Set (objects.Process q)) reroutes desk = stale_if_units (steps.Queue q.name) reroutes desk
desk_units (changes.SetManager m) reroutes desk = stale_if_units steps.DefXmitq reroutes desk
desk_units (changes.Delete s) reroutes desk = same_units desk.live

-- ---- lists with a queue more, or less

abbrev or_state : Option QueueState → Option QueueState → Option QueueState
or_state None o = o
or_state (Some s) o = Some s

in_pushed : (name : List ℕ) (ss : List QueueState) (s : QueueState) → state_in name (ss ++ s ∷ []) ≡ or_state (state_in name ss) (cond (bytes_eq name s.queue.name) (Some s) None)
in_pushed name [] s = refl
in_pushed name (r ∷ rs) s = by (bytes_eq name r.queue.name) (in_pushed name rs s)
  where
    by : (b : Bool) → state_in name (rs ++ s ∷ []) ≡ or_state (state_in name rs) (cond (bytes_eq name s.queue.name) (Some s) None)
        → cond b (Some r) (state_in name (rs ++ s ∷ [])) ≡ or_state (cond b (Some r) (state_in name rs)) (cond (bytes_eq name s.queue.name) (Some s) None)
    by true rest = refl
    by false rest = rest

in_without : (name gone : List ℕ) (ss : List QueueState) → state_in name (without_state gone ss) ≡ cond (bytes_eq name gone) None (state_in name ss)
in_without name gone [] = by (bytes_eq name gone)
  where
    none : Option QueueState
    none = None

    by : (b : Bool) → None ≡ cond b None none
    by true = refl
    by false = refl
in_without name gone (s ∷ ss) = by (bytes_eq gone s.queue.name) refl (bytes_eq name gone) refl (in_without name gone ss)
  where
    inner : (t : Bool) → bytes_eq name s.queue.name ≡ t → cond t (Some s) (state_in name ss) ≡ state_in name (s ∷ ss)
    inner t e = ap (λ (u : Bool). cond u (Some s) (state_in name ss)) (sym e)

    kept : (t : Bool) → bytes_eq name s.queue.name ≡ t → (c : Bool) → (c ≡ true → t ≡ false) → state_in name (without_state gone ss) ≡ cond c None (state_in name ss)
        → cond t (Some s) (state_in name (without_state gone ss)) ≡ cond c None (cond t (Some s) (state_in name ss))
    kept true e true other rest = absurd (true_false (other refl))
    kept true e false other rest = refl
    kept false e true other rest = rest
    kept false e false other rest = rest

    gone_away : (c : Bool) → bytes_eq name gone ≡ c → bytes_eq gone s.queue.name ≡ true → state_in name (without_state gone ss) ≡ cond c None (state_in name ss)
        → state_in name (without_state gone ss) ≡ cond c None (cond (bytes_eq name s.queue.name) (Some s) (state_in name ss))
    gone_away true e g rest = rest
    gone_away false e g rest = rest ∙ ap (λ (u : Bool). cond u (Some s) (state_in name ss)) (sym (ap (bytes_eq name) (sym (name_is gone s.queue.name g)) ∙ e))

    by : (b : Bool) → bytes_eq gone s.queue.name ≡ b → (c : Bool) → bytes_eq name gone ≡ c → state_in name (without_state gone ss) ≡ cond (bytes_eq name gone) None (state_in name ss)
        → state_in name (cond (not b) (s ∷ without_state gone ss) (without_state gone ss)) ≡ cond (bytes_eq name gone) None (cond (bytes_eq name s.queue.name) (Some s) (state_in name ss))
    by true g c e rest = gone_away (bytes_eq name gone) refl g rest
    by false g c e rest = kept (bytes_eq name s.queue.name) refl (bytes_eq name gone) (λ n. ap (λ (k : List ℕ). bytes_eq k s.queue.name) (name_is name gone n) ∙ g) rest

-- ---- lanes and waiting puts of each name, behind a local queue that is set

abbrev lanes_behind : Bool → LocalQueue → Option Bool → Option Bool
lanes_behind true q l = Some (is_by_priority q.delivery)
lanes_behind false q l = l

or_none : (o : Option QueueState) → state_lanes (or_state o None) ≡ state_lanes o
or_none None = refl
or_none (Some s) = refl

renewed_lanes : (q : LocalQueue) (x : PartsValue) (o : Option LocalQueue) → Tied x → local_of q.name x.defs.definitions ≡ o → (name : List ℕ)
    → state_lanes (state_in name (renewed_states o q x.queues.states)) ≡ lanes_behind (bytes_eq name q.name) q (state_lanes (state_in name x.queues.states))
renewed_lanes q x None t e name = ap state_lanes (in_pushed name x.queues.states (fresh_state q.name (is_by_priority q.delivery))) ∙ by (bytes_eq name q.name) refl
  where
    by : (b : Bool) → bytes_eq name q.name ≡ b → state_lanes (or_state (state_in name x.queues.states) (cond b (Some (fresh_state q.name (is_by_priority q.delivery))) None)) ≡ lanes_behind b q (state_lanes (state_in name x.queues.states))
    by true n = ap (λ (o : Option QueueState). state_lanes (or_state o (Some (fresh_state q.name (is_by_priority q.delivery))))) (ap (λ (k : List ℕ). state_in k x.queues.states) (name_is name q.name n) ∙ undefined_none q.name x t e)
    by false n = or_none (state_in name x.queues.states)
renewed_lanes q x (Some old) t e name = by (bytes_eq name q.name) refl
  where
    by : (b : Bool) → bytes_eq name q.name ≡ b → state_lanes (state_in name (change_state q.name (with_lanes (is_by_priority q.delivery)) x.queues.states)) ≡ lanes_behind b q (state_lanes (state_in name x.queues.states))
    by true n =
        let found = defined_some q.name x old t e in
        ap (λ (k : List ℕ). state_lanes (state_in k (change_state q.name (with_lanes (is_by_priority q.delivery)) x.queues.states))) (name_is name q.name n)
        ∙ ap state_lanes (state_changed q.name (with_lanes (is_by_priority q.delivery)) (λ s. refl) x.queues.states found.0 found.1)
    by false n = ap state_lanes (state_other q.name (with_lanes (is_by_priority q.delivery)) (λ s. refl) name n x.queues.states)

renewed_pending : (q : LocalQueue) (x : PartsValue) (o : Option LocalQueue) → (name : List ℕ) → pending_at (state_in name (renewed_states o q x.queues.states)) ≡ pending_at (state_in name x.queues.states)
renewed_pending q x None name = ap pending_at (in_pushed name x.queues.states (fresh_state q.name (is_by_priority q.delivery))) ∙ by (state_in name x.queues.states) (bytes_eq name q.name)
  where
    by : (o : Option QueueState) (b : Bool) → pending_at (or_state o (cond b (Some (fresh_state q.name (is_by_priority q.delivery))) None)) ≡ pending_at o
    by (Some s) b = refl
    by None true = refl
    by None false = refl
renewed_pending q x (Some old) name = seen_changed q.name (with_lanes (is_by_priority q.delivery)) (λ s. refl) pending_at (λ s. refl) name x.queues.states

module _ {A : Type 0} (g : Option QueueState → A) (same : (s : QueueState) → g (Some (on_queue switched_on s)) ≡ g (Some s)) where
  switched_seen : (on : Bool) (at name : List ℕ) (ss : List QueueState) → g (state_in name (switched_states on at ss)) ≡ g (state_in name ss)
  switched_seen true at name ss = seen_changed at (on_queue switched_on) (λ s. refl) g same name ss
  switched_seen false at name ss = refl

-- idents stand no oftener
times_pushed : (i : Ident) (ss : List QueueState) (name : List ℕ) (b : Bool) → times_in_queues i (queues_of (ss ++ fresh_state name b ∷ [])) ≡ times_in_queues i (queues_of ss)
times_pushed i [] name b = refl
times_pushed i (s ∷ ss) name b = ap (λ (n : ℕ). times_in_rows i s.queue.rows + n) (times_pushed i ss name b)

times_changed : (i : Ident) (at : List ℕ) (f : QueueState → QueueState) → ((s : QueueState) → (f s).queue.rows ≡ s.queue.rows) → (ss : List QueueState) → times_in_queues i (queues_of (change_state at f ss)) ≡ times_in_queues i (queues_of ss)
times_changed i at f same [] = refl
times_changed i at f same (s ∷ ss) = by (bytes_eq at s.queue.name) (times_changed i at f same ss)
  where
    by : (b : Bool) → times_in_queues i (queues_of (change_state at f ss)) ≡ times_in_queues i (queues_of ss) → times_in_queues i (queues_of (cond b (f s ∷ ss) (s ∷ change_state at f ss))) ≡ times_in_queues i (queues_of (s ∷ ss))
    by true rest = ap (λ (rows : List Row). times_in_rows i rows + times_in_queues i (queues_of ss)) (same s)
    by false rest = ap (λ (n : ℕ). times_in_rows i s.queue.rows + n) rest

times_renewed : (i : Ident) (q : LocalQueue) (o : Option LocalQueue) (ss : List QueueState) → times_in_queues i (queues_of (renewed_states o q ss)) ≡ times_in_queues i (queues_of ss)
times_renewed i q None ss = times_pushed i ss q.name (is_by_priority q.delivery)
times_renewed i q (Some old) ss = times_changed i q.name (with_lanes (is_by_priority q.delivery)) (λ s. refl) ss

times_switched : (i : Ident) (on : Bool) (at : List ℕ) (ss : List QueueState) → times_in_queues i (queues_of (switched_states on at ss)) ≡ times_in_queues i (queues_of ss)
times_switched i true at ss = times_changed i at (on_queue switched_on) (λ s. refl) ss
times_switched i false at ss = refl

times_without : (i : Ident) (gone : List ℕ) (ss : List QueueState) → times_in_queues i (queues_of (without_state gone ss)) ≤ times_in_queues i (queues_of ss)
times_without i gone [] = omega arith
times_without i gone (s ∷ ss) = by (bytes_eq gone s.queue.name) (times_without i gone ss)
  where
    by : (b : Bool) → times_in_queues i (queues_of (without_state gone ss)) ≤ times_in_queues i (queues_of ss)
        → times_in_queues i (queues_of (cond (not b) (s ∷ without_state gone ss) (without_state gone ss))) ≤ times_in_rows i s.queue.rows + times_in_queues i (queues_of ss)
    by true rest = omega (arith, rest)
    by false rest = omega (arith, rest)

times_after : (i : Ident) (change : ObjectChange) (on : Bool) (d : Definitions) (ss : List QueueState) → times_in_queues i (queues_of (states_after change on d ss)) ≤ times_in_queues i (queues_of ss)
times_after i (changes.Set (objects.Local q)) on d ss = let a = times_switched i on q.name (renewed_states (local_of q.name d) q ss) in let b = times_renewed i q (local_of q.name d) ss in omega (arith, a, b)
times_after i (changes.Set (objects.Alias q)) on d ss = omega arith
times_after i (changes.Set (objects.Remote q)) on d ss = omega arith
times_after i (changes.Set (objects.Channel q)) on d ss = omega arith
times_after i (changes.Set (objects.Process q)) on d ss = omega arith
times_after i (changes.SetManager m) on d ss = omega arith
times_after i (changes.Delete (subjects.Local name)) on d ss = times_without i name ss
times_after i (changes.Delete (subjects.Alias name)) on d ss = omega arith
times_after i (changes.Delete (subjects.Remote name)) on d ss = omega arith
times_after i (changes.Delete (subjects.Channel name)) on d ss = omega arith
times_after i (changes.Delete (subjects.Process name)) on d ss = omega arith

-- ---- the queues that are kept are those that are defined

-- where an object that is no local queue stands, no local queue is
not_local : (o : Option Object) → ((old : Object) → o ≡ Some old → is_local old ≡ false) → as_local o ≡ None
not_local None h = refl
not_local (Some (objects.Local q)) h = absurd (true_false (h (objects.Local q) refl))
not_local (Some (objects.Alias q)) h = refl
not_local (Some (objects.Remote q)) h = refl
not_local (Some (objects.Channel q)) h = refl
not_local (Some (objects.Process q)) h = refl

-- lanes behind an object of the queues' name space that is set, and is no local queue
other_set : (at : List ℕ) (new : Object) (x : PartsValue) (name : List ℕ) → Tied x → as_local (Some new) ≡ None → as_local (object_in Queues at x.defs.definitions.objects) ≡ None
    → state_lanes (state_in name x.queues.states) ≡ local_lanes (as_local (cond (bytes_eq name at) (Some new) (object_in Queues name x.defs.definitions.objects)))
other_set at new x name t none before = by (bytes_eq name at) refl
  where
    by : (b : Bool) → bytes_eq name at ≡ b → state_lanes (state_in name x.queues.states) ≡ local_lanes (as_local (cond b (Some new) (object_in Queues name x.defs.definitions.objects)))
    by true n = t.queues.lanes name ∙ ap local_lanes (ap (λ (k : List ℕ). as_local (object_in Queues k x.defs.definitions.objects)) (name_is name at n) ∙ before ∙ sym none)
    by false n = t.queues.lanes name

-- and behind one that is deleted
other_gone : (at : List ℕ) (x : PartsValue) (name : List ℕ) → Tied x → as_local (object_in Queues at x.defs.definitions.objects) ≡ None
    → state_lanes (state_in name x.queues.states) ≡ local_lanes (as_local (cond (bytes_eq name at) None (object_in Queues name x.defs.definitions.objects)))
other_gone at x name t before = by (bytes_eq name at) refl
  where
    by : (b : Bool) → bytes_eq name at ≡ b → state_lanes (state_in name x.queues.states) ≡ local_lanes (as_local (cond b None (object_in Queues name x.defs.definitions.objects)))
    by true n = t.queues.lanes name ∙ ap local_lanes (ap (λ (k : List ℕ). as_local (object_in Queues k x.defs.definitions.objects)) (name_is name at n) ∙ before)
    by false n = t.queues.lanes name

local_set : (q : LocalQueue) (x : PartsValue) (on : Bool) (name : List ℕ) → Tied x
    → state_lanes (state_in name (switched_states on q.name (renewed_states (local_of q.name x.defs.definitions) q x.queues.states))) ≡ local_lanes (as_local (cond (bytes_eq name q.name) (Some (objects.Local q)) (object_in Queues name x.defs.definitions.objects)))
local_set q x on name t =
    switched_seen state_lanes (λ s. refl) on q.name name (renewed_states (local_of q.name x.defs.definitions) q x.queues.states)
    ∙ renewed_lanes q x (local_of q.name x.defs.definitions) t refl name
    ∙ by (bytes_eq name q.name)
  where
    by : (b : Bool) → lanes_behind b q (state_lanes (state_in name x.queues.states)) ≡ local_lanes (as_local (cond b (Some (objects.Local q)) (object_in Queues name x.defs.definitions.objects)))
    by true = refl
    by false = t.queues.lanes name

local_gone : (gone : List ℕ) (x : PartsValue) (name : List ℕ) → Tied x
    → state_lanes (state_in name (without_state gone x.queues.states)) ≡ local_lanes (as_local (cond (bytes_eq name gone) None (object_in Queues name x.defs.definitions.objects)))
local_gone gone x name t = ap state_lanes (in_without name gone x.queues.states) ∙ by (bytes_eq name gone)
  where
    by : (b : Bool) → state_lanes (cond b None (state_in name x.queues.states)) ≡ local_lanes (as_local (cond b None (object_in Queues name x.defs.definitions.objects)))
    by true = refl
    by false = t.queues.lanes name

deleted_other : (old : Object) → is_local old ≡ false → (o : Option Object) → o ≡ Some old → as_local o ≡ None
deleted_other old l o e = not_local o (λ k f. subst (λ (z : Object). is_local z ≡ false) (some_same old k (sym e ∙ f)) l)

kind_alias : (name : List ℕ) (old : Object) → is_kind (subjects.Alias name) old ≡ true → is_local old ≡ false
kind_alias name (objects.Local q) e = absurd cc
kind_alias name (objects.Alias q) e = refl
kind_alias name (objects.Remote q) e = refl
kind_alias name (objects.Channel q) e = refl
kind_alias name (objects.Process q) e = refl

kind_remote : (name : List ℕ) (old : Object) → is_kind (subjects.Remote name) old ≡ true → is_local old ≡ false
kind_remote name (objects.Local q) e = absurd cc
kind_remote name (objects.Alias q) e = refl
kind_remote name (objects.Remote q) e = refl
kind_remote name (objects.Channel q) e = refl
kind_remote name (objects.Process q) e = refl

lanes_after : (change : ObjectChange) (reroutes on : Bool) (x : PartsValue) → Tied x → AreOnce x.defs.definitions.objects → CanChange change reroutes on (plain_of x) → (name : List ℕ)
    → state_lanes (state_in name (states_after change on x.defs.definitions x.queues.states)) ≡ local_lanes (local_of name (changed change x.defs.definitions))
lanes_after (changes.Set (objects.Local q)) reroutes on x t once can name =
    local_set q x on name t ∙ ap (λ (o : Option Object). local_lanes (as_local o)) (sym (set_found Queues name (objects.Local q) x.defs.definitions.objects))
lanes_after (changes.Set (objects.Alias q)) reroutes on x t once can name =
    other_set q.name (objects.Alias q) x name t refl (not_local (object_in Queues q.name x.defs.definitions.objects) (λ old e. sym (can.over old e).kind))
    ∙ ap (λ (o : Option Object). local_lanes (as_local o)) (sym (set_found Queues name (objects.Alias q) x.defs.definitions.objects))
lanes_after (changes.Set (objects.Remote q)) reroutes on x t once can name =
    other_set q.name (objects.Remote q) x name t refl (not_local (object_in Queues q.name x.defs.definitions.objects) (λ old e. sym (can.over old e).kind))
    ∙ ap (λ (o : Option Object). local_lanes (as_local o)) (sym (set_found Queues name (objects.Remote q) x.defs.definitions.objects))
lanes_after (changes.Set (objects.Channel q)) reroutes on x t once can name = t.queues.lanes name ∙ ap (λ (o : Option Object). local_lanes (as_local o)) (sym (set_found Queues name (objects.Channel q) x.defs.definitions.objects))
lanes_after (changes.Set (objects.Process q)) reroutes on x t once can name = t.queues.lanes name ∙ ap (λ (o : Option Object). local_lanes (as_local o)) (sym (set_found Queues name (objects.Process q) x.defs.definitions.objects))
lanes_after (changes.SetManager m) reroutes on x t once can name = t.queues.lanes name
lanes_after (changes.Delete (subjects.Local gone)) reroutes on x t once can name = local_gone gone x name t ∙ ap (λ (o : Option Object). local_lanes (as_local o)) (sym (delete_found Queues Queues name gone x.defs.definitions.objects once))
lanes_after (changes.Delete (subjects.Alias gone)) reroutes on x t once can name =
    other_gone gone x name t (deleted_other can.old (kind_alias gone can.old can.kind) (object_in Queues gone x.defs.definitions.objects) can.found)
    ∙ ap (λ (o : Option Object). local_lanes (as_local o)) (sym (delete_found Queues Queues name gone x.defs.definitions.objects once))
lanes_after (changes.Delete (subjects.Remote gone)) reroutes on x t once can name =
    other_gone gone x name t (deleted_other can.old (kind_remote gone can.old can.kind) (object_in Queues gone x.defs.definitions.objects) can.found)
    ∙ ap (λ (o : Option Object). local_lanes (as_local o)) (sym (delete_found Queues Queues name gone x.defs.definitions.objects once))
lanes_after (changes.Delete (subjects.Channel gone)) reroutes on x t once can name = t.queues.lanes name ∙ ap (λ (o : Option Object). local_lanes (as_local o)) (sym (delete_found Queues Channels name gone x.defs.definitions.objects once))
lanes_after (changes.Delete (subjects.Process gone)) reroutes on x t once can name = t.queues.lanes name ∙ ap (λ (o : Option Object). local_lanes (as_local o)) (sym (delete_found Queues Processes name gone x.defs.definitions.objects once))

-- ---- the puts that wait

-- for a queue that is deleted none does
no_puts : (n k : ℕ) → nat_lt 0 (n + k) ≡ false → k ≡ 0
no_puts n k e = grind (arith, nat_tests, e)

gone_puts : (gone : List ℕ) (x : PartsValue) → CanDelete (subjects.Local gone) (plain_of x) → puts_to gone x.desk.live ≡ 0
gone_puts gone x can = by can.old can.found can.kind can.filled
  where
    by : (old : Object) → object_in Queues gone x.defs.definitions.objects ≡ Some old → is_kind (subjects.Local gone) old ≡ true → is_filled old (uses_of (plain_of x)) ≡ false → puts_to gone x.desk.live ≡ 0
    by (objects.Local q) e k f =
        let named = name_is gone q.name (local_name gone x.defs.definitions.objects q (ap as_local e)) in
        subst (λ (n : List ℕ). puts_to n x.desk.live ≡ 0) (sym named) (no_puts (length (queue_in q.name (queues_of x.queues.states)).rows) (puts_to q.name x.desk.live) f)
    by (objects.Alias q) e k f = absurd cc
    by (objects.Remote q) e k f = absurd cc
    by (objects.Channel q) e k f = absurd cc
    by (objects.Process q) e k f = absurd cc

local_waits : (gone : List ℕ) (x : PartsValue) (name : List ℕ) → Tied x → CanDelete (subjects.Local gone) (plain_of x) → pending_at (state_in name (without_state gone x.queues.states)) ≡ puts_to name x.desk.live
local_waits gone x name t can = ap pending_at (in_without name gone x.queues.states) ∙ by (bytes_eq name gone) refl
  where
    by : (b : Bool) → bytes_eq name gone ≡ b → pending_at (cond b None (state_in name x.queues.states)) ≡ puts_to name x.desk.live
    by true n = sym (ap (λ (k : List ℕ). puts_to k x.desk.live) (name_is name gone n) ∙ gone_puts gone x can)
    by false n = let p = t.queues.pending name in omega (arith, p)

waits_after : (change : ObjectChange) (reroutes on : Bool) (x : PartsValue) → Tied x → CanChange change reroutes on (plain_of x) → (name : List ℕ)
    → pending_at (state_in name (states_after change on x.defs.definitions x.queues.states)) ≡ puts_to name x.desk.live
waits_after (changes.Set (objects.Local q)) reroutes on x t can name =
    let a = switched_seen pending_at (λ s. refl) on q.name name (renewed_states (local_of q.name x.defs.definitions) q x.queues.states) in
    let b = renewed_pending q x (local_of q.name x.defs.definitions) name in
    let p = t.queues.pending name in
    omega (arith, a, b, p)
waits_after (changes.Set (objects.Alias q)) reroutes on x t can name = let p = t.queues.pending name in omega (arith, p)
waits_after (changes.Set (objects.Remote q)) reroutes on x t can name = let p = t.queues.pending name in omega (arith, p)
waits_after (changes.Set (objects.Channel q)) reroutes on x t can name = let p = t.queues.pending name in omega (arith, p)
waits_after (changes.Set (objects.Process q)) reroutes on x t can name = let p = t.queues.pending name in omega (arith, p)
waits_after (changes.SetManager m) reroutes on x t can name = let p = t.queues.pending name in omega (arith, p)
waits_after (changes.Delete (subjects.Local gone)) reroutes on x t can name = local_waits gone x name t can
waits_after (changes.Delete (subjects.Alias gone)) reroutes on x t can name = let p = t.queues.pending name in omega (arith, p)
waits_after (changes.Delete (subjects.Remote gone)) reroutes on x t can name = let p = t.queues.pending name in omega (arith, p)
waits_after (changes.Delete (subjects.Channel gone)) reroutes on x t can name = let p = t.queues.pending name in omega (arith, p)
waits_after (changes.Delete (subjects.Process gone)) reroutes on x t can name = let p = t.queues.pending name in omega (arith, p)

-- ---- all of it

pub altered_tied : (planned : Planned) (r s : ℕ) (x : PartsValue) → Tied x → AreOnce x.defs.definitions.objects → CanChange planned.change planned.reroutes planned.switches_on (plain_of x) → Tied (altered planned r s x)
altered_tied planned r s x t once can =
    let same = desk_units planned.change planned.reroutes x.desk in
    record {
      up = λ u. let w = t.up u in record { live = w.live; settled = w.settled; ends = w.ends; room = w.room; body = w.body };
      reserved = λ u. t.reserved u ∙ sym same.need;
      within = t.within;
      queues = record {
        lanes = lanes_after planned.change planned.reroutes planned.switches_on x t once can;
        pending = λ name. let a = waits_after planned.change planned.reroutes planned.switches_on x t can name in let b = same.puts name in omega (arith, a, b);
      };
      idents = record {
        once = λ i. let less = times_after i planned.change planned.switches_on x.defs.definitions x.queues.states in let units = same.times i in let old = t.idents.once i in omega (arith, less, units, old);
        given = λ i a b c. let less = times_after i planned.change planned.switches_on x.defs.definitions x.queues.states in let units = same.times i in let old = t.idents.given i a b c in omega (arith, less, units, old);
      };
      forced = same.forced t.forced;
      max = t.max;
      moment = t.moment;
    }
