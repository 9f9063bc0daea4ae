-- The end of a unit as the plain manager sees it: its end may come first.
use Rattle.std.proofs.Common.{◌≡◌, ℕ, Bool, true, false, cond, List, [], ◌∷◌, ◌++◌, refl, ap, sym, ◌∙◌}
use Rattle.std.specs.Prelude.{ℤ, Option, Some, None, nat_le, not, ◌||◌, ◌&&◌, ◌==◌, is_some, map}
use Rattle.std.specs.List.{flat_map, list_any}
use Rattle.mq_objects.specs.declared.object.TriggerType.TheVariants as triggers
use Rattle.mq_calls.specs.Condition.{by_type, is_served, waiting, is_long_ago}
use Rattle.mq_calls.specs.Words.{Plain, Change, Among, LocalQueue, kept_in, released_in, change_connection, apply, apply_all, condition, try_if, try_trigger, place, any_handle, local_of, stored, has_priority, is_input, leads_to, read_by_sender, process_of, is_transmission, TriggerType}
use Rattle.mq_calls.specs.declared.state.Connection.{Connection}
use Rattle.mq_calls.specs.declared.state.Handle.{Handle}
use Rattle.mq_calls.specs.declared.state.Item.{Item}
use Rattle.mq_calls.specs.State.{Queue as StateQueue}
use Rattle.mq_calls.specs.State.Change.{EndUnit}
use Rattle.mq_calls.specs.declared.state.Item.TheVariants.{Put, Take}
use Rattle.mq_spec_manager.specs.Words.{taken_item, placed_item, freed_item, commit_changes}
use Rattle.mq_core.specs.from_handles.Seats.{emptied}
use Rattle.mq_core.specs.from_place.States.{unpended}
use Rattle.mq_core.specs.Views.{PartsValue, plain_of, frozen_of}
use Rattle.mq_core.specs.Ties.{mode_is_up}
use Rattle.mq_core.specs.Writes.{end_changes}
use Rattle.mq_core.specs.Placing.{put_in_place, put_each, take_each, removed_from}
use Rattle.mq_core.proofs.PlaceLaws.{placed_view}
use Rattle.mq_core.proofs.ForceLaws.{queues_on}
use Rattle.mq_core.proofs.PutLaws.{queues_same}
use Rattle.mq_core.proofs.MeetLaws.{running_up}
use Rattle.mq_ends.specs.Ends.{ended_unit, AreReady, left_if, settled, unpended_at, freed_at, backed_each, backed}
use Rattle.mq_ends.proofs.EndLaws.{put_rest, take_rest}

with_queues : Plain → List StateQueue → Plain
with_queues p qs = record p { queues = qs }

all_of : List Change → Plain → Plain
all_of changes p = apply_all changes p

end_of : ℕ → Plain → Plain
end_of n p = apply (EndUnit n) p

-- changes one behind the other
pub behind : (as_ bs : List Change) (p : Plain) → apply_all (as_ ++ bs) p ≡ apply_all bs (apply_all as_ p)
behind [] bs p = refl
behind (a ∷ as_) bs p = behind as_ bs (apply a p)

-- the views
take_view : (items : List Item) (x : PartsValue) → plain_of (take_each items x) ≡ apply_all (flat_map taken_item items) (plain_of x)
unfolding with_queues all_of
take_view [] x = refl
take_view (Put queue m ∷ items) x = take_view items x
take_view (Take queue ident persistent ∷ items) x =
    take_view items (removed_from queue ident x)
    ∙ ap (λ (qs : List StateQueue). all_of (flat_map taken_item items) (with_queues (plain_of x) qs)) (queues_on (kept_in (Among queue (ident ∷ []))) x.queues.states)

put_view : (items : List Item) (x : PartsValue) → AreReady items x → plain_of (put_each items x) ≡ apply_all (flat_map placed_item items) (plain_of x)
unfolding all_of
put_view [] x r = refl
put_view (Put queue m ∷ items) x r = put_view items (put_in_place queue m x) r.1 ∙ ap (all_of (flat_map placed_item items)) (placed_view queue m x r.0)
put_view (Take queue ident persistent ∷ items) x r = put_view items x r

free_view : (items : List Item) (x : PartsValue) → plain_of (backed_each items x) ≡ apply_all (flat_map freed_item items) (plain_of x)
unfolding with_queues all_of
free_view [] x = refl
free_view (Put queue m ∷ items) x =
    free_view items (unpended_at queue x)
    ∙ ap (λ (qs : List StateQueue). all_of (flat_map freed_item items) (with_queues (plain_of x) qs)) (queues_same queue unpended (λ s. refl) x.queues.states)
free_view (Take queue ident persistent ∷ items) x =
    free_view items (freed_at queue ident x)
    ∙ ap (λ (qs : List StateQueue). all_of (flat_map freed_item items) (with_queues (plain_of x) qs)) (queues_on (released_in (Among queue (ident ∷ [])) true) x.queues.states)

with_connections : PartsValue → List Connection → Plain
with_connections x cs = record (plain_of x) { connections = cs }

ended_view : (number : ℕ) (c : Connection) (x : PartsValue) → mode_is_up x.mode ≡ true → plain_of (ended_unit number c x) ≡ apply (EndUnit number) (plain_of x)
unfolding with_connections
ended_view number c x up = λ i. record (with_connections x (change_connection number emptied x.desk.live)) { running = running_up (frozen_of x) (frozen_of (ended_unit number c x)) x.mode up i }

left_view : (ends : Bool) (number : ℕ) (x : PartsValue) → mode_is_up x.mode ≡ true → plain_of (left_if ends number x) ≡ apply_all (end_changes ends number) (plain_of x)
unfolding with_connections
left_view true number x up = λ i. record (with_connections x (left_if true number x).desk.live) { running = running_up (frozen_of x) (frozen_of (left_if true number x)) x.mode up i }
left_view false number x up = refl

-- a unit's end shows in no trigger's condition
any_emptied : (test : Handle → Bool) (n : ℕ) (cs : List Connection) → any_handle test (change_connection n emptied cs) ≡ any_handle test cs
any_emptied test n [] = refl
any_emptied test n (c ∷ cs) = by (c.number == n) (any_emptied test n cs)
  where
    by : (b : Bool) → any_handle test (change_connection n emptied cs) ≡ any_handle test cs → any_handle test (cond b (emptied c ∷ cs) (c ∷ change_connection n emptied cs)) ≡ (list_any test c.handles || any_handle test cs)
    by true rest = refl
    by false rest = ap (λ (b : Bool). list_any test c.handles || b) rest

read_late : (test : Handle → Bool) (n : ℕ) (p : Plain) → any_handle test (end_of n p).connections ≡ any_handle test p.connections
unfolding end_of
read_late test n p = any_emptied test n p.connections

is_reader : List ℕ → Handle → Bool
is_reader name h = is_input h.how.input && leads_to name h.leads

type_late : (t : TriggerType) (q : LocalQueue) (n : ℕ) (p : Plain) → by_type t q (end_of n p) ≡ by_type t q p
unfolding end_of is_reader
type_late triggers.First q n p = ap (λ (b : Bool). (waiting q p == 1 || is_long_ago p.definitions.manager.trigger_interval p.moment (stored q.name p).last_due) && not (b || read_by_sender q.name p)) (any_emptied (is_reader q.name) n p.connections)
type_late triggers.Every q n p = refl
type_late triggers.Depth q n p = ap (λ (b : Bool). nat_le q.trigger_depth (waiting q p) && not (b || read_by_sender q.name p)) (any_emptied (is_reader q.name) n p.connections)
type_late triggers.Never q n p = refl

served_late : (o : Option LocalQueue) (n : ℕ) (p : Plain) → is_served o (end_of n p) ≡ is_served o p
unfolding end_of is_reader
served_late None n p = refl
served_late (Some q) n p = ap (λ (b : Bool). not (is_transmission q.usage) && q.get_enabled && b) (any_emptied (is_reader q.name) n p.connections)

triggered_by : LocalQueue → ℤ → Plain → Bool → Bool → Bool
triggered_by q priority p kind served =
    q.trigger && not (stored q.name p).switched_off && has_priority q.trigger_priority priority && kind
    && served && is_some (process_of q.process p.definitions)

condition_late : (o : Option LocalQueue) (priority : ℤ) (n : ℕ) (p : Plain) → condition o priority (end_of n p) ≡ condition o priority p
unfolding end_of triggered_by
condition_late None priority n p = refl
condition_late (Some q) priority n p = λ i. triggered_by q priority p (type_late q.trigger_type q n p i) (served_late (local_of q.initiation_queue p.definitions) n p i)

try_if_late : (b : Bool) (queue : List ℕ) (n : ℕ) (p : Plain) → try_if b queue (end_of n p) ≡ end_of n (try_if b queue p)
unfolding end_of
try_if_late true queue n p = refl
try_if_late false queue n p = refl

tried_if : List ℕ → Plain → Bool → Plain
tried_if queue p b = try_if b queue p

condition_there : (queue : List ℕ) (priority : ℤ) (n : ℕ) (p : Plain) → condition (local_of queue (end_of n p).definitions) priority (end_of n p) ≡ condition (local_of queue p.definitions) priority p
unfolding end_of
condition_there queue priority n p = condition_late (local_of queue p.definitions) priority n p

try_late : (queue : List ℕ) (priority : ℤ) (n : ℕ) (p : Plain) → try_trigger queue priority (end_of n p) ≡ end_of n (try_trigger queue priority p)
unfolding tried_if
try_late queue priority n p = ap (tried_if queue (end_of n p)) (condition_there queue priority n p) ∙ try_if_late (condition (local_of queue p.definitions) priority p) queue n p

placed_late : (items : List Item) (n : ℕ) (p : Plain) → apply_all (flat_map placed_item items) (end_of n p) ≡ end_of n (apply_all (flat_map placed_item items) p)
unfolding end_of all_of
placed_late [] n p = refl
placed_late (Put queue m ∷ items) n p =
    ap (all_of (flat_map placed_item items)) (try_late queue m.md.priority n (place queue m p))
    ∙ placed_late items n (try_trigger queue m.md.priority (place queue m p))
placed_late (Take queue ident persistent ∷ items) n p = placed_late items n p

taken_late : (items : List Item) (n : ℕ) (p : Plain) → apply_all (flat_map taken_item items) (end_of n p) ≡ end_of n (apply_all (flat_map taken_item items) p)
unfolding end_of
taken_late [] n p = refl
taken_late (Put queue m ∷ items) n p = taken_late items n p
taken_late (Take queue ident persistent ∷ items) n p = taken_late items n (record p { queues = map (kept_in (Among queue (ident ∷ []))) p.queues })

freed_late : (items : List Item) (n : ℕ) (p : Plain) → apply_all (flat_map freed_item items) (end_of n p) ≡ end_of n (apply_all (flat_map freed_item items) p)
unfolding end_of
freed_late [] n p = refl
freed_late (Put queue m ∷ items) n p = freed_late items n p
freed_late (Take queue ident persistent ∷ items) n p = freed_late items n (record p { queues = map (released_in (Among queue (ident ∷ [])) true) p.queues })

-- a commit, and a backout
commit_path : (c : Connection) (more : List Change) (p : Plain) → apply_all (commit_changes c ++ more) p ≡ apply_all more (end_of c.number (apply_all (flat_map placed_item c.unit) (apply_all (flat_map taken_item c.unit) p)))
unfolding all_of end_of
commit_path c more p =
    let first : apply_all (commit_changes c) p ≡ end_of c.number (apply_all (flat_map placed_item c.unit) (apply_all (flat_map taken_item c.unit) p)) =
    behind (flat_map taken_item c.unit ++ flat_map placed_item c.unit) (EndUnit c.number ∷ []) p
    ∙ ap (end_of c.number) (behind (flat_map taken_item c.unit) (flat_map placed_item c.unit) p) in
    behind (commit_changes c) more p ∙ ap (all_of more) first

mode_kept : (c : Connection) (x : PartsValue) → (put_each c.unit (take_each c.unit x)).mode ≡ x.mode
mode_kept c x = ap (λ (z : PartsValue). z.mode) (put_rest c.unit (take_each c.unit x)) ∙ ap (λ (z : PartsValue). z.mode) (take_rest c.unit x)

pub settled_view : (number : ℕ) (ends : Bool) (c : Connection) (x : PartsValue) → mode_is_up x.mode ≡ true → c.number ≡ number → AreReady c.unit (take_each c.unit (ended_unit number c x))
    → plain_of (settled number ends c x) ≡ apply_all (commit_changes c ++ end_changes ends c.number) (plain_of x)
unfolding all_of end_of
settled_view number ends c x up is ready =
    let e = ended_unit number c x in
    let placed : Plain → Plain = all_of (flat_map placed_item c.unit) in
    let taken : Plain → Plain = all_of (flat_map taken_item c.unit) in
    left_view ends number (put_each c.unit (take_each c.unit e)) (ap mode_is_up (mode_kept c e) ∙ up)
    ∙ ap (all_of (end_changes ends number))
    (put_view c.unit (take_each c.unit e) ready
    ∙ ap placed (take_view c.unit e ∙ ap taken (ended_view number c x up) ∙ taken_late c.unit number (plain_of x))
    ∙ placed_late c.unit number (apply_all (flat_map taken_item c.unit) (plain_of x)))
    ∙ (λ i. all_of (end_changes ends (sym is i)) (end_of (sym is i) (placed (taken (plain_of x)))))
    ∙ sym (commit_path c (end_changes ends c.number) (plain_of x))

pub backed_view : (number : ℕ) (c : Connection) (x : PartsValue) → mode_is_up x.mode ≡ true → c.number ≡ number → plain_of (backed number c x) ≡ apply_all (flat_map freed_item c.unit ++ EndUnit c.number ∷ []) (plain_of x)
unfolding all_of end_of
backed_view number c x up is =
    let freed : Plain → Plain = all_of (flat_map freed_item c.unit) in
    free_view c.unit (ended_unit number c x)
    ∙ ap freed (ended_view number c x up)
    ∙ freed_late c.unit number (plain_of x)
    ∙ ap (λ (n : ℕ). end_of n (freed (plain_of x))) (sym is)
    ∙ sym (behind (flat_map freed_item c.unit) (EndUnit c.number ∷ []) (plain_of x))
