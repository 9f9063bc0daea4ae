-- A stop: what it does to the queues is what the plain manager's changes do, and the parts are tied at rest.
use Rattle.std.proofs.Common.{◌≡◌, ℕ, ◌+◌, ◌-◌, ◌≤◌, Bool, true, false, cond, List, [], ◌∷◌, ◌++◌, refl, ap, arith, sym, subst, ◌∙◌}
use Rattle.std.specs.Prelude.{Option, Some, None, map, not, ◌&&◌}
use Rattle.std.specs.List.{AllByRecursion, list_any}
use Rattle.std.specs.Str.{bytes_eq}
use Rattle.mq_message.specs.declared.place.Holder.{Holder}
use Rattle.mq_message.specs.declared.place.Holder.TheVariants as holders
use Rattle.mq_objects.specs.declared.object.Object.{Object}
use Rattle.mq_objects.specs.declared.object.Object.TheVariants as objects
use Rattle.mq_objects.specs.Names.{object_in, as_local, is_object}
use Rattle.mq_objects.specs.Names.Space.{Queues}
use Rattle.mq_calls.specs.State.{Queue as StateQueue}
use Rattle.mq_calls.specs.Words.{Running, Up, is_up, Ident, Row, Plain, Change, Which, LocalQueue, Among, HeldBy, HeldByUnits, Nonpersistent, Down, same_ident, is_free, is_by_unit, held_by, selects, retag, kept_in, released_in, release_if, forgotten, apply_all, has_ident, local_of}
use Rattle.mq_calls.specs.declared.state.Batch.{Batch}
use Rattle.mq_queue.specs.Queues.{freed}
use Rattle.mq_calls.specs.State.Change.{Leave, ForgetAll}
use Rattle.mq_spec_manager.specs.Stops.{at_rest, stop, stop_at, release_batch}
use Rattle.mq_steer.specs.Quiet.{Comes}
use Rattle.mq_place.specs.States.{QueueState, queues_of, state_in, change_state, on_queue, on_queues, unpended}
use Rattle.mq_log.specs.State.{log_length}
use Rattle.mq_core.specs.Views.{PartsValue, plain_of, length_of}
use Rattle.mq_core.specs.Values.{CoreValue, begun_call}
use Rattle.mq_core.specs.Ties.{Tied, mode_is_up, state_lanes, local_lanes, pending_at, times_in_rows, times_in_queues, one_if}
use Rattle.mq_core.proofs.ForceLaws.{length_up, queues_on, seen_on, times_on, times_keep}
use Rattle.mq_core.proofs.PlaceLaws.{name_is, same_name}
use Rattle.mq_core.proofs.PutLaws.{queues_same}
use Rattle.mq_steer.specs.Rests.{HoldsJust, AreHeldIn, AreHeld, batches_released, lessened, unawaited, object_unawaited, objects_unawaited, rested, states_rested, parts_rested}

true_false : true ≡ false → ⊥
true_false e = absurd cc

-- ---- puts that wait

-- what a change of one queue keeps is seen at every name
module _ {A : Type 0} (at : List ℕ) (f : QueueState → QueueState) (named : (s : QueueState) → (f s).queue.name ≡ s.queue.name) (g : Option QueueState → A) (same : (s : QueueState) → g (Some (f s)) ≡ g (Some s)) where
  pub seen_changed : (name : List ℕ) (qs : List QueueState) → g (state_in name (change_state at f qs)) ≡ g (state_in name qs)
  seen_changed name [] = refl
  seen_changed name (s ∷ ss) = by (bytes_eq at s.queue.name) (seen_changed name ss)
    where
      here : (b : Bool) → g (cond b (Some (f s)) (state_in name ss)) ≡ g (cond b (Some s) (state_in name ss))
      here true = same s
      here false = refl

      behind : (b : Bool) → g (state_in name (change_state at f ss)) ≡ g (state_in name ss) → g (cond b (Some s) (state_in name (change_state at f ss))) ≡ g (cond b (Some s) (state_in name ss))
      behind true rest = refl
      behind false rest = rest

      by : (b : Bool) → g (state_in name (change_state at f ss)) ≡ g (state_in name ss) → g (state_in name (cond b (f s ∷ ss) (s ∷ change_state at f ss))) ≡ g (state_in name (s ∷ ss))
      by true rest = ap (λ (n : List ℕ). g (cond (bytes_eq name n) (Some (f s)) (state_in name ss))) (named s) ∙ here (bytes_eq name s.queue.name)
      by false rest = behind (bytes_eq name s.queue.name) rest

-- less by as many as wait is none
pub none_left : (at : List ℕ) (qs : List QueueState) (n : ℕ) → n ≡ pending_at (state_in at qs) → change_state at (lessened n) qs ≡ change_state at unawaited qs
none_left at [] n e = refl
none_left at (s ∷ ss) n e = by (bytes_eq at s.queue.name) e (none_left at ss n)
  where
    by : (b : Bool) → n ≡ pending_at (cond b (Some s) (state_in at ss)) → (n ≡ pending_at (state_in at ss) → change_state at (lessened n) ss ≡ change_state at unawaited ss)
        → cond b (lessened n s ∷ ss) (s ∷ change_state at (lessened n) ss) ≡ cond b (unawaited s ∷ ss) (s ∷ change_state at unawaited ss)
    by true e rest = let none : s.pending - n ≡ 0 = omega (arith, e) in ap (λ (k : ℕ). let t : QueueState = record s { pending = k } in t ∷ ss) none
    by false e rest = ap (λ (ts : List QueueState). s ∷ ts) (rest e)

-- one less
pub one_less : (at : List ℕ) (n : ℕ) (qs : List QueueState) → change_state at unpended (change_state at (lessened n) qs) ≡ change_state at (lessened (n + 1)) qs
one_less at n [] = refl
one_less at n (s ∷ ss) = by (bytes_eq at s.queue.name) refl (one_less at n ss)
  where
    less : s.pending - n - 1 ≡ s.pending - (n + 1)
    less = omega arith

    by : (b : Bool) → bytes_eq at s.queue.name ≡ b → change_state at unpended (change_state at (lessened n) ss) ≡ change_state at (lessened (n + 1)) ss
        → change_state at unpended (cond b (lessened n s ∷ ss) (s ∷ change_state at (lessened n) ss)) ≡ cond b (lessened (n + 1) s ∷ ss) (s ∷ change_state at (lessened (n + 1)) ss)
    by true e rest = ap (λ (b : Bool). cond b (unpended (lessened n s) ∷ ss) (lessened n s ∷ change_state at unpended ss)) e ∙ ap (λ (k : ℕ). let t : QueueState = record s { pending = k } in t ∷ ss) less
    by false e rest = ap (λ (b : Bool). cond b (unpended s ∷ change_state at (lessened n) ss) (s ∷ change_state at unpended (change_state at (lessened n) ss))) e ∙ ap (λ (ts : List QueueState). s ∷ ts) rest

-- none less
pub none_less : (at : List ℕ) (qs : List QueueState) → change_state at (lessened 0) qs ≡ qs
none_less at [] = refl
none_less at (s ∷ ss) = by (bytes_eq at s.queue.name) (none_less at ss)
  where
    by : (b : Bool) → change_state at (lessened 0) ss ≡ ss → cond b (lessened 0 s ∷ ss) (s ∷ change_state at (lessened 0) ss) ≡ s ∷ ss
    by true rest = let same : s.pending - 0 ≡ s.pending = omega arith in ap (λ (k : ℕ). let t : QueueState = record s { pending = k } in t ∷ ss) same
    by false rest = ap (λ (ts : List QueueState). s ∷ ts) rest

-- none waits where none waited, and none waits for what is passed over
module _ (at : List ℕ) where
  pub zero_stays : (name : List ℕ) (qs : List QueueState) → pending_at (state_in name qs) ≡ 0 → pending_at (state_in name (change_state at unawaited qs)) ≡ 0
  zero_stays name [] z = refl
  zero_stays name (s ∷ ss) z = by (bytes_eq at s.queue.name) z (zero_stays name ss)
    where
      here : (c : Bool) → pending_at (cond c (Some s) (state_in name ss)) ≡ 0 → pending_at (cond c (Some (unawaited s)) (state_in name ss)) ≡ 0
      here true z = refl
      here false z = z

      behind : (c : Bool) → pending_at (cond c (Some s) (state_in name ss)) ≡ 0 → (pending_at (state_in name ss) ≡ 0 → pending_at (state_in name (change_state at unawaited ss)) ≡ 0)
          → pending_at (cond c (Some s) (state_in name (change_state at unawaited ss))) ≡ 0
      behind true z rest = z
      behind false z rest = rest z

      by : (b : Bool) → pending_at (state_in name (s ∷ ss)) ≡ 0 → (pending_at (state_in name ss) ≡ 0 → pending_at (state_in name (change_state at unawaited ss)) ≡ 0)
          → pending_at (state_in name (cond b (unawaited s ∷ ss) (s ∷ change_state at unawaited ss))) ≡ 0
      by true z rest = here (bytes_eq name s.queue.name) z
      by false z rest = behind (bytes_eq name s.queue.name) z rest

  pub zero_made : (qs : List QueueState) → pending_at (state_in at (change_state at unawaited qs)) ≡ 0
  zero_made [] = refl
  zero_made (s ∷ ss) = by (bytes_eq at s.queue.name) refl (zero_made ss)
    where
      by : (b : Bool) → bytes_eq at s.queue.name ≡ b → pending_at (state_in at (change_state at unawaited ss)) ≡ 0 → pending_at (state_in at (cond b (unawaited s ∷ ss) (s ∷ change_state at unawaited ss))) ≡ 0
      by true e rest = ap (λ (b : Bool). pending_at (cond b (Some (unawaited s)) (state_in at ss))) e
      by false e rest = ap (λ (b : Bool). pending_at (cond b (Some s) (state_in at (change_state at unawaited ss)))) e ∙ rest

-- for the queues of these objects
object_stays : (name : List ℕ) (o : Object) (qs : List QueueState) → pending_at (state_in name qs) ≡ 0 → pending_at (state_in name (object_unawaited o qs)) ≡ 0
object_stays name (objects.Local q) qs z = zero_stays q.name name qs z
object_stays name (objects.Alias q) qs z = z
object_stays name (objects.Remote q) qs z = z
object_stays name (objects.Channel c) qs z = z
object_stays name (objects.Process c) qs z = z

objects_stay : (name : List ℕ) (os : List Object) (qs : List QueueState) → pending_at (state_in name qs) ≡ 0 → pending_at (state_in name (objects_unawaited os qs)) ≡ 0
objects_stay name [] qs z = z
objects_stay name (o ∷ os) qs z = objects_stay name os (object_unawaited o qs) (object_stays name o qs z)

local_named : (name : List ℕ) (o : Object) (q : LocalQueue) → as_local (Some o) ≡ Some q → is_object Queues name o ≡ true → (qs : List QueueState) → pending_at (state_in name (object_unawaited o qs)) ≡ 0
local_named name (objects.Local p) q e n qs = subst (λ (k : List ℕ). pending_at (state_in k (change_state p.name unawaited qs)) ≡ 0) (sym (name_is name p.name n)) (zero_made p.name qs)
local_named name (objects.Alias p) q e n qs = absurd cc
local_named name (objects.Remote p) q e n qs = absurd cc
local_named name (objects.Channel p) q e n qs = absurd cc
local_named name (objects.Process p) q e n qs = absurd cc

-- none waits for a queue that is defined
local_none : (name : List ℕ) (os : List Object) (q : LocalQueue) (qs : List QueueState) → as_local (object_in Queues name os) ≡ Some q → pending_at (state_in name (objects_unawaited os qs)) ≡ 0
local_none name [] q qs e = absurd cc
local_none name (o ∷ os) q qs e = by (is_object Queues name o) refl e (local_none name os q (object_unawaited o qs))
  where
    by : (b : Bool) → is_object Queues name o ≡ b → as_local (cond b (Some o) (object_in Queues name os)) ≡ Some q
        → (as_local (object_in Queues name os) ≡ Some q → pending_at (state_in name (objects_unawaited os (object_unawaited o qs))) ≡ 0) → pending_at (state_in name (objects_unawaited os (object_unawaited o qs))) ≡ 0
    by true n e rest = objects_stay name os (object_unawaited o qs) (local_named name o q e n qs)
    by false n e rest = rest e

none_waits : (name : List ℕ) (os : List Object) (qs : List QueueState) (o : Option LocalQueue) → as_local (object_in Queues name os) ≡ o → state_lanes (state_in name qs) ≡ local_lanes o → pending_at (state_in name (objects_unawaited os qs)) ≡ 0
none_waits name os qs (Some q) e lanes = local_none name os q qs e
none_waits name os qs None e lanes = objects_stay name os qs (by (state_in name qs) lanes)
  where
    by : (s : Option QueueState) → state_lanes s ≡ None → pending_at s ≡ 0
    by None l = refl
    by (Some s) l = absurd cc

-- nothing else has changed
object_queues : (o : Object) (qs : List QueueState) → queues_of (object_unawaited o qs) ≡ queues_of qs
object_queues (objects.Local q) qs = queues_same q.name unawaited (λ s. refl) qs
object_queues (objects.Alias q) qs = refl
object_queues (objects.Remote q) qs = refl
object_queues (objects.Channel c) qs = refl
object_queues (objects.Process c) qs = refl

unawaited_queues : (os : List Object) (qs : List QueueState) → queues_of (objects_unawaited os qs) ≡ queues_of qs
unawaited_queues [] qs = refl
unawaited_queues (o ∷ os) qs = unawaited_queues os (object_unawaited o qs) ∙ object_queues o qs

object_lanes : (name : List ℕ) (o : Object) (qs : List QueueState) → state_lanes (state_in name (object_unawaited o qs)) ≡ state_lanes (state_in name qs)
object_lanes name (objects.Local q) qs = seen_changed q.name unawaited (λ s. refl) state_lanes (λ s. refl) name qs
object_lanes name (objects.Alias q) qs = refl
object_lanes name (objects.Remote q) qs = refl
object_lanes name (objects.Channel c) qs = refl
object_lanes name (objects.Process c) qs = refl

unawaited_lanes : (name : List ℕ) (os : List Object) (qs : List QueueState) → state_lanes (state_in name (objects_unawaited os qs)) ≡ state_lanes (state_in name qs)
unawaited_lanes name [] qs = refl
unawaited_lanes name (o ∷ os) qs = unawaited_lanes name os (object_unawaited o qs) ∙ object_lanes name o qs

-- ---- rows

freed_ident : (counted : Bool) (row : Row) → (freed counted row).message.ident ≡ row.message.ident
freed_ident true row = refl
freed_ident false row = refl

freed_by : (counted : Bool) (row : Row) → (freed counted row).by ≡ None
freed_by true row = refl
freed_by false row = refl

-- a batch holds just what it lists, also behind a release of other rows
abbrev by_batch : List ℕ → Option Holder → Bool
by_batch channel by = held_by (holders.Batch channel) by

abbrev is_listed : Batch → List ℕ → Ident → Bool
is_listed b name i = bytes_eq name b.queue && list_any (same_ident i) b.idents

module _ (b : Batch) (which : Which) (counted : Bool) (name : List ℕ) (others : (row : Row) → by_batch b.channel row.by ≡ is_listed b name row.message.ident → selects which name row ≡ true → by_batch b.channel row.by ≡ false) where
  row_kept : (row : Row) → by_batch b.channel row.by ≡ is_listed b name row.message.ident
      → by_batch b.channel (release_if (selects which name row && not (is_free row)) counted row).by ≡ is_listed b name (release_if (selects which name row && not (is_free row)) counted row).message.ident
  row_kept row e = by (selects which name row) (not (is_free row)) (others row e)
    where
      by : (t u : Bool) → (t ≡ true → by_batch b.channel row.by ≡ false) → by_batch b.channel (release_if (t && u) counted row).by ≡ is_listed b name (release_if (t && u) counted row).message.ident
      by true true f = ap (by_batch b.channel) (freed_by counted row) ∙ sym (f refl) ∙ e ∙ ap (is_listed b name) (sym (freed_ident counted row))
      by true false f = e
      by false u f = e

  rows_kept : (rows : List Row) → AllByRecursion (λ (row : Row). by_batch b.channel row.by ≡ is_listed b name row.message.ident) rows
      → AllByRecursion (λ (row : Row). by_batch b.channel row.by ≡ is_listed b name row.message.ident) (retag (λ (row : Row). release_if (selects which name row && not (is_free row)) counted row) rows)
  rows_kept [] h = tt
  rows_kept (row ∷ rows) h = (row_kept row h.0, rows_kept rows h.1)

unit_or_batch : (channel : List ℕ) (o : Option Holder) → is_by_unit o ≡ true → by_batch channel o ≡ false
unit_or_batch channel None e = absurd cc
unit_or_batch channel (Some (holders.Unit n)) e = refl
unit_or_batch channel (Some (holders.Batch c)) e = absurd cc

other_batch : (channel other : List ℕ) (o : Option Holder) → bytes_eq other channel ≡ false → by_batch other o ≡ true → by_batch channel o ≡ false
other_batch channel other None ne e = absurd cc
other_batch channel other (Some (holders.Unit n)) ne e = refl
other_batch channel other (Some (holders.Batch c)) ne e = ap (bytes_eq channel) (sym (name_is other c e)) ∙ by (bytes_eq channel other) refl
  where
    by : (t : Bool) → bytes_eq channel other ≡ t → t ≡ false
    by true t = absurd (true_false (sym (ap (bytes_eq other) (name_is channel other t) ∙ same_name other) ∙ ne))
    by false t = refl

abbrev each_released : List Batch → List StateQueue → List StateQueue
each_released [] qs = qs
each_released (b ∷ bs) qs = each_released bs (map (released_in (Among b.queue b.idents) false) qs)

abbrev each_freed : List Batch → List StateQueue → List StateQueue
each_freed [] qs = qs
each_freed (b ∷ bs) qs = each_freed bs (map (released_in (HeldBy (holders.Batch b.channel)) false) qs)

-- a release of other rows, in all queues
held_still : (b : Batch) (which : Which) (counted : Bool) → ((name : List ℕ) (row : Row) → by_batch b.channel row.by ≡ is_listed b name row.message.ident → selects which name row ≡ true → by_batch b.channel row.by ≡ false)
    → (qs : List StateQueue) → AllByRecursion (HoldsJust b) qs → AllByRecursion (HoldsJust b) (map (released_in which counted) qs)
held_still b which counted others [] h = tt
held_still b which counted others (q ∷ qs) h = (rows_kept b which counted q.name (others q.name) q.rows h.0, held_still b which counted others qs h.1)

held_by_units : (bs : List Batch) (qs : List StateQueue) → AreHeldIn qs bs → AreHeldIn (map (released_in HeldByUnits true) qs) bs
held_by_units [] qs h = tt
held_by_units (b ∷ bs) qs h = (held_still b HeldByUnits true (λ name row e t. unit_or_batch b.channel row.by t) qs h.0, h.1, held_by_units bs qs h.2)

held_behind : (a : Batch) (bs : List Batch) (qs : List StateQueue) → AllByRecursion (λ (d : Batch). bytes_eq a.channel d.channel ≡ false) bs → AreHeldIn qs bs → AreHeldIn (map (released_in (HeldBy (holders.Batch a.channel)) false) qs) bs
held_behind a [] qs ne h = tt
held_behind a (b ∷ bs) qs ne h =
    (held_still b (HeldBy (holders.Batch a.channel)) false (λ name row e t. other_batch b.channel a.channel row.by ne.0 t) qs h.0, h.1, held_behind a bs qs ne.1 h.2)

-- a batch that is released by what it lists is released
rows_alike : (b : Batch) (name : List ℕ) (rows : List Row) → AllByRecursion (λ (row : Row). by_batch b.channel row.by ≡ is_listed b name row.message.ident) rows
    → retag (λ (row : Row). release_if (selects (Among b.queue b.idents) name row && not (is_free row)) false row) rows ≡ retag (λ (row : Row). release_if (selects (HeldBy (holders.Batch b.channel)) name row && not (is_free row)) false row) rows
rows_alike b name [] h = refl
rows_alike b name (row ∷ rows) h =
    ap (λ (t : Bool). release_if (t && not (is_free row)) false row ∷ retag (λ (row : Row). release_if (selects (Among b.queue b.idents) name row && not (is_free row)) false row) rows) (sym h.0)
    ∙ ap (λ (rest : List Row). release_if (by_batch b.channel row.by && not (is_free row)) false row ∷ rest) (rows_alike b name rows h.1)

queues_alike : (b : Batch) (qs : List StateQueue) → AllByRecursion (HoldsJust b) qs → map (released_in (Among b.queue b.idents) false) qs ≡ map (released_in (HeldBy (holders.Batch b.channel)) false) qs
queues_alike b [] h = refl
queues_alike b (q ∷ qs) h =
    ap (λ (rows : List Row). let p : StateQueue = record q { rows = rows } in p ∷ map (released_in (Among b.queue b.idents) false) qs) (rows_alike b q.name q.rows h.0)
    ∙ ap (λ (rest : List StateQueue). released_in (HeldBy (holders.Batch b.channel)) false q ∷ rest) (queues_alike b qs h.1)

all_alike : (bs : List Batch) (qs : List StateQueue) → AreHeldIn qs bs → each_released bs qs ≡ each_freed bs qs
all_alike [] qs h = refl
all_alike (b ∷ bs) qs h = ap (each_released bs) (queues_alike b qs h.0) ∙ all_alike bs (map (released_in (HeldBy (holders.Batch b.channel)) false) qs) (held_behind b bs qs h.1 h.2)

batches_queues : (bs : List Batch) (ss : List QueueState) → queues_of (batches_released bs ss) ≡ each_released bs (queues_of ss)
batches_queues [] ss = refl
batches_queues (b ∷ bs) ss = batches_queues bs (on_queues (released_in (Among b.queue b.idents) false) ss) ∙ ap (each_released bs) (queues_on (released_in (Among b.queue b.idents) false) ss)

-- what a stop does to the queues, as the plain manager sees it
abbrev queues_rested : List Batch → List StateQueue → List StateQueue
queues_rested bs qs = map forgotten (map (kept_in Nonpersistent) (each_freed bs (map (released_in HeldByUnits true) qs)))

rested_queues : (bs : List Batch) (ss : List QueueState) → AreHeldIn (queues_of ss) bs → queues_of (rested bs ss) ≡ queues_rested bs (queues_of ss)
rested_queues bs ss h =
    queues_on forgotten (on_queues (kept_in Nonpersistent) (batches_released bs (on_queues (released_in HeldByUnits true) ss)))
    ∙ ap (map forgotten) (queues_on (kept_in Nonpersistent) (batches_released bs (on_queues (released_in HeldByUnits true) ss)))
    ∙ ap (λ (qs : List StateQueue). map forgotten (map (kept_in Nonpersistent) qs)) (
    batches_queues bs (on_queues (released_in HeldByUnits true) ss)
    ∙ ap (each_released bs) (queues_on (released_in HeldByUnits true) ss)
    ∙ all_alike bs (map (released_in HeldByUnits true) (queues_of ss)) (held_by_units bs (queues_of ss) h))

abbrev plain_freed : List Batch → Plain → Plain
plain_freed bs p = record p { queues = each_freed bs p.queues }

release_all : (bs : List Batch) (rest : List Change) (p : Plain) → apply_all (map release_batch bs ++ rest) p ≡ apply_all rest (plain_freed bs p)
release_all [] rest p = refl
release_all (b ∷ bs) rest p = release_all bs rest (record p { queues = map (released_in (HeldBy (holders.Batch b.channel)) false) p.queues })

abbrev rested_with : PartsValue → ℕ → List StateQueue → Plain
rested_with x long qs = record (plain_of (parts_rested x)) { queues = qs; log = record { length = long; armed = x.log.armed } }

-- the view at rest
pub rested_view : (x : PartsValue) → mode_is_up x.mode ≡ true → AreHeld (plain_of x) → plain_of (parts_rested x) ≡ record (at_rest (plain_of x)) { running = Down None 0 }
rested_view x up h =
    ap (λ (long : ℕ). rested_with x long (queues_of (states_rested x))) (sym (length_up x.mode up (log_length x.log.bodies)))
    ∙ ap (rested_with x (length_of x.mode (log_length x.log.bodies))) (rested_queues x.ends.batches (objects_unawaited x.defs.definitions.objects x.queues.states) (subst (λ (qs : List StateQueue). AreHeldIn qs x.ends.batches) (sym (unawaited_queues x.defs.definitions.objects x.queues.states)) h)
    ∙ ap (queues_rested x.ends.batches) (unawaited_queues x.defs.definitions.objects x.queues.states))
    ∙ ap (λ (p : Plain). record p { running = Down None 0 }) (sym (release_all x.ends.batches (Leave Nonpersistent ∷ ForgetAll ∷ []) (record (plain_of x) { queues = map (released_in HeldByUnits true) (queues_of x.queues.states) })))

-- ---- the parts are tied

times_same : (i : Ident) (which : Which) (counted : Bool) (name : List ℕ) (rows : List Row) → times_in_rows i (retag (λ (row : Row). release_if (selects which name row && not (is_free row)) counted row) rows) ≤ times_in_rows i rows
times_same i which counted name [] = omega arith
times_same i which counted name (row ∷ rows) = let one = by (selects which name row && not (is_free row)) in let rest = times_same i which counted name rows in omega (arith, one, rest)
  where
    by : (t : Bool) → one_if (has_ident i (release_if t counted row)) ≡ one_if (has_ident i row)
    by true = ap (λ (k : Ident). one_if (same_ident k i)) (freed_ident counted row)
    by false = refl

times_batches : (i : Ident) (bs : List Batch) (ss : List QueueState) → times_in_queues i (queues_of (batches_released bs ss)) ≤ times_in_queues i (queues_of ss)
times_batches i [] ss = omega arith
times_batches i (b ∷ bs) ss =
    let rest = times_batches i bs (on_queues (released_in (Among b.queue b.idents) false) ss) in
    let one = times_on i (released_in (Among b.queue b.idents) false) (λ q. times_same i (Among b.queue b.idents) false q.name q.rows) ss in
    omega (arith, rest, one)

times_rested : (i : Ident) (bs : List Batch) (ss : List QueueState) → times_in_queues i (queues_of (rested bs ss)) ≤ times_in_queues i (queues_of ss)
times_rested i bs ss =
    let a = on_queues (released_in HeldByUnits true) ss in
    let b = batches_released bs a in
    let one = times_on i (released_in HeldByUnits true) (λ q. times_same i HeldByUnits true q.name q.rows) ss in
    let two = times_batches i bs a in
    let three = times_on i (kept_in Nonpersistent) (λ q. times_keep i (λ (row : Row). not (selects Nonpersistent q.name row)) q.rows) b in
    let four = times_on i forgotten (λ q. omega arith) (on_queues (kept_in Nonpersistent) b) in
    omega (arith, one, two, three, four)

times_left : (i : Ident) (x : PartsValue) → times_in_queues i (queues_of (states_rested x)) ≤ times_in_queues i (queues_of x.queues.states)
times_left i x =
    let same = ap (times_in_queues i) (unawaited_queues x.defs.definitions.objects x.queues.states) in
    let less = times_rested i x.ends.batches (objects_unawaited x.defs.definitions.objects x.queues.states) in
    omega (arith, same, less)

module _ {A : Type 0} (g : Option QueueState → A) (same : (f : StateQueue → StateQueue) (s : QueueState) → g (Some (on_queue f s)) ≡ g (Some s)) where
  seen_batches : (name : List ℕ) (bs : List Batch) (ss : List QueueState) → g (state_in name (batches_released bs ss)) ≡ g (state_in name ss)
  seen_batches name [] ss = refl
  seen_batches name (b ∷ bs) ss = seen_batches name bs (on_queues (released_in (Among b.queue b.idents) false) ss) ∙ seen_on (released_in (Among b.queue b.idents) false) (λ q. refl) g (same (released_in (Among b.queue b.idents) false)) name ss

  seen_rested : (name : List ℕ) (bs : List Batch) (ss : List QueueState) → g (state_in name (rested bs ss)) ≡ g (state_in name ss)
  seen_rested name bs ss =
      let a = on_queues (released_in HeldByUnits true) ss in
      let b = batches_released bs a in
      seen_on forgotten (λ q. refl) g (same forgotten) name (on_queues (kept_in Nonpersistent) b)
      ∙ seen_on (kept_in Nonpersistent) (λ q. refl) g (same (kept_in Nonpersistent)) name b
      ∙ seen_batches name bs a
      ∙ seen_on (released_in HeldByUnits true) (λ q. refl) g (same (released_in HeldByUnits true)) name ss

pub tied_rested : (x : PartsValue) → Tied x → Tied (parts_rested x)
tied_rested x t = record {
  up = λ u. absurd (true_false (sym u));
  reserved = λ u. absurd (true_false (sym u));
  within = λ u. absurd (true_false (sym u));
  queues = record {
    lanes = λ name. seen_rested state_lanes (λ f s. refl) name x.ends.batches (objects_unawaited x.defs.definitions.objects x.queues.states) ∙ unawaited_lanes name x.defs.definitions.objects x.queues.states ∙ t.queues.lanes name;
    pending = λ name.
        let same = seen_rested pending_at (λ f s. refl) name x.ends.batches (objects_unawaited x.defs.definitions.objects x.queues.states) in
        let none = none_waits name x.defs.definitions.objects x.queues.states (local_of name x.defs.definitions) refl (t.queues.lanes name) in
        omega (arith, same, none);
  };
  idents = record {
    once = λ i. let less = times_left i x in let old = t.idents.once i in omega (arith, less, old);
    given = λ i a b c. let less = times_left i x in let old = t.idents.given i a b c in omega (arith, less, old);
  };
  forced = tt;
  max = t.max;
  moment = t.moment;
}

-- ---- what a stop answers

pub stop_is_down : (v new : CoreValue) → is_up v.plain.running ≡ false → new ≡ begun_call v → Comes (stop v.plain) false v new
stop_is_down v new e n = by v.plain.running e
  where
    by : (r : Running) → is_up r ≡ false → Comes (stop_at r v.plain) false v new
    by Up e = absurd cc
    by (Down noted starts) e = record { answered = refl; becomes = n }

pub stop_is_up : (v new : CoreValue) → is_up v.plain.running ≡ true → new.plain ≡ record (at_rest v.plain) { running = Down None 0 } → new.delta ≡ [] → new.stopped ≡ None → new.faults ≡ v.faults → new.log ≡ v.log → Comes (stop v.plain) true v new
stop_is_up v new e plain told stopped faults log = by v.plain.running e
  where
    by : (r : Running) → is_up r ≡ true → Comes (stop_at r v.plain) true v new
    by Up e = record { answered = refl; becomes = λ i. record { plain = plain i; delta = told i; stopped = stopped i; faults = faults i; log = log i } }
    by (Down noted starts) e = absurd cc
