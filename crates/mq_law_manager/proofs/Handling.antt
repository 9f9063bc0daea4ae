-- Triggers, expiry, and what the handler does keep what holds of a manager's rows.
use Rattle.std.proofs.Common.{ℕ, ◌≡◌, Bool, true, false, List, [], ◌∷◌, ◌++◌, refl, ap, sym, subst, ◌∙◌, length, inl, inr}
use Rattle.std.specs.Prelude.{Option, Some, None, Result, Ok, Err, cond, not, ◌||◌, filter, find}
use Rattle.mq_codes.specs.declared.reason.Reason.{Reason}
use Rattle.mq_codes.specs.declared.reason.Reason.TheVariants as reasons
use Rattle.mq_message.specs.declared.message.Ident.{Ident}
use Rattle.mq_message.specs.declared.message.Dest.{Dest}
use Rattle.mq_message.specs.declared.message.Message.{Message}
use Rattle.mq_queue.specs.declared.row.Row.{Row}
use Rattle.mq_queue.specs.Rows.{is_free, has_ident}
use Rattle.mq_objects.specs.declared.object.LocalQueue.{LocalQueue}
use Rattle.mq_objects.specs.declared.object.Process.{Process}
use Rattle.mq_objects.specs.Names.{local_of, locals_of, process_of, is_transmission}
use Rattle.mq_calls.specs.from_resolve.{Route}
use Rattle.mq_calls.specs.from_resolve.Resolved.{resolve}
use Rattle.mq_calls.specs.declared.deltas.Why.TheVariants as whys
use Rattle.mq_calls.specs.declared.records.LogRecord.{LogRecord}
use Rattle.mq_calls.specs.State.{Plain}
use Rattle.mq_calls.specs.State.Which.{Among}
use Rattle.mq_calls.specs.State.Change.{Place as Places, Leave, Serve, CountIdent, Seize}
use Rattle.mq_calls.specs.Reads.{stored, is_up, is_expired, free_rows, is_open_for_input, has_held_by_other}
use Rattle.mq_calls.specs.Changes.{apply, apply_all}
use Rattle.mq_calls.specs.Steps.{when, silent, logged, do_part}
use Rattle.mq_calls.specs.Steps.Step.{Do}
use Rattle.mq_spec_manager.specs.Handles.{is_transmission_queue}
use Rattle.mq_calls.specs.declared.agents.SeizeFault.TheVariants as seize_faults
use Rattle.mq_spec_manager.specs.Put.{placed, next_ident}
use Rattle.mq_spec_manager.specs.Triggers.{trigger_turn, trigger_at, serve, serve_by, serve_into, put_trigger, takes_it, first_due, trigger_message}
use Rattle.mq_spec_manager.specs.Agents.{seize, leave, set_bound, channel_queue, expire, queue_of_sender, expired_rows, discard, move_row, move_found, move_resolved, move_part, moved_forced, Landing, landing, bare_if, route_tests, move_full, HasFreeRow, CanMove}
use Rattle.mq_objects.specs.Names.{channel_of}
use Rattle.mq_law_manager.specs.View.{View, view}
use Rattle.mq_law_manager.specs.Facts.{Mem, Sound, Holds}
use Rattle.mq_law_manager.specs.Seen.{goes_if, row_for}
use Rattle.mq_law_manager.specs.Kept.{Keeps}
use Rattle.mq_law_manager.proofs.Lists.{bool_case, ident_yes, mem_keep, one_row}
use Rattle.mq_law_manager.proofs.Apart.{IsNew}
use Rattle.mq_law_manager.proofs.SeenLaws.{applied}
use Rattle.mq_law_manager.proofs.Steps.{places, free_is, among_one}
use Rattle.mq_law_manager.proofs.Units.{sound_placed, sound_logged, view_logged, tested_keeps}
use Rattle.mq_law_manager.proofs.Puts.{next_new, sound_counted}
use Rattle.mq_law_manager.proofs.Removals.{mem_filter, removals_keep, sound_left}

-- A trigger turn

served : (name : List ℕ) (p : Plain) → Sound p → Sound (apply (Serve name) p)
served name p h = subst Holds (sym (applied (Serve name) p tt)) h

trigger_keeps : (q : LocalQueue) (process : Process) (i : LocalQueue) (p : Plain) (o : Option Reason) → Sound p → Sound (do_part (put_trigger o q process i p) p)
trigger_keeps q process i p (Some reason) h = served q.name p h
trigger_keeps q process i p None h =
    let s : Plain = apply (Serve q.name) p in
    let m : Message = trigger_message (next_ident p) q process i p.moment in
    subst Holds (sym (applied (Places i.name m) (apply CountIdent s) tt))
    (places (view (apply CountIdent s)) i.name (row_for i.name m (apply CountIdent s)) (sound_counted s (served q.name p h)) (next_new s (served q.name p h)) refl refl)

serve_keeps : (q : LocalQueue) (process : Option Process) (i : Option LocalQueue) (p : Plain) → Sound p → Sound (do_part (serve_by q process i p) p)
serve_keeps q None i p h = served q.name p h
serve_keeps q (Some process) None p h = served q.name p h
serve_keeps q (Some process) (Some i) p h = bool_case (is_transmission i.usage) (λ b. Sound (do_part (serve_into b q process i p) p)) (λ e. served q.name p h) (λ e. trigger_keeps q process i p (takes_it i p) h)

turn_keeps : (b : Bool) (o : Option LocalQueue) (p : Plain) → Sound p → Keeps (serve o p) p
turn_keeps b None p h = tt
turn_keeps b (Some q) p h = (serve_keeps q (process_of q.process p.definitions) (local_of q.initiation_queue p.definitions) p h, tt)

pub trigger_turn_keeps : (p : Plain) → Sound p → Keeps (trigger_turn p) p
trigger_turn_keeps p h = bool_case (is_up p.running) (λ b. Keeps (trigger_at b p) p) (λ e. turn_keeps true (first_due (locals_of p.definitions) p) p h) (λ e. tt)

-- Seizures

pub seize_keeps : (channel : List ℕ) (p : Plain) → Sound p → Keeps (seize channel p) p
seize_keeps channel p h =
    let queue : List ℕ = channel_queue (channel_of channel p.definitions) in
    tested_keeps (when (not (is_transmission_queue (local_of queue p.definitions))) seize_faults.BadQueue ∷ when (is_open_for_input queue p || has_held_by_other channel queue p) seize_faults.QueueInUse ∷ [])
    (Do tt (silent (Seize (record { channel = channel; queue = queue }) ∷ []) ∷ [])) p (λ e. (h, tt))

pub leave_keeps : (channel : List ℕ) (p : Plain) → Sound p → Keeps (leave channel p) p
leave_keeps channel p h = (h, tt)

pub set_bound_keeps : (channel : List ℕ) (b : Bool) (p : Plain) → Sound p → Keeps (set_bound channel b p) p
set_bound_keeps channel true p h = (h, tt)
set_bound_keeps channel false p h = (h, tt)

-- Expiry and discards

pub expire_keeps : (channel : List ℕ) (p : Plain) → Sound p → Keeps (expire channel p) p
expire_keeps channel p h =
    let q : List ℕ = queue_of_sender channel p in
    removals_keep whys.Expired q (expired_rows q p) p h (λ r m.
    let a = mem_filter r (is_expired p) (free_rows q p) m in
    let b = mem_filter r is_free ((view p).rows q) a.0 in
    (b.0, free_is r b.1))

-- a row that is looked for by its ident
pub find_mem : (ident : Ident) (rows : List Row) (r : Row) → find (has_ident ident) rows ≡ Some r → Mem r rows × (r.message.ident ≡ ident)
find_mem ident [] r = λ e. absurd cc
find_mem ident (x ∷ xs) r = bool_case (has_ident ident x) (λ b. has_ident ident x ≡ b → cond b (Some x) (find (has_ident ident) xs) ≡ Some r → Mem r (x ∷ xs) × (r.message.ident ≡ ident))
    (λ z w e. let is : x ≡ r = cc e in (inl (sym is), sym (ap (λ (y : Row). y.message.ident) is) ∙ ident_yes x.message.ident ident w))
    (λ z w e. let k = find_mem ident xs r e in (inr k.0, k.1)) refl

-- a row of that ident there is free
pub is_loose : (queue : List ℕ) (ident : Ident) (p : Plain) → Sound p → HasFreeRow queue ident p → (r : Row) → Mem r ((view p).rows queue) → r.message.ident ≡ ident → r.by ≡ None
is_loose queue ident p h f r m e =
    let k = find_mem ident ((view p).rows queue) f.row f.found in
    ap (λ (x : Row). x.by) (one_row ((view p).rows queue) r f.row (h.apart.once queue) m k.0 (e ∙ sym k.1)) ∙ f.free

-- (the handler asks for a row that is free)
pub discard_keeps : (queue : List ℕ) (ident : Ident) (p : Plain) → Sound p → HasFreeRow queue ident p → Keeps (discard queue ident p) p
discard_keeps queue ident p h free = removals_keep whys.Discarded queue (filter (has_ident ident) (stored queue p).rows) p h (λ r m.
    let a = mem_filter r (has_ident ident) ((view p).rows queue) m in (a.0, is_loose queue ident p h free r a.0 (ident_yes r.message.ident ident a.1)))

-- a row that leaves its queue, and is placed on another
pub left_new : (p : Plain) (q : List ℕ) (r : Row) → Sound p → Mem r ((view p).rows q)
    → IsNew r.message.ident (view (apply (Leave (Among q (r.message.ident ∷ []))) p)).rows (view p).puts (view p).unborn
left_new p q r h there =
    let which = Among q (r.message.ident ∷ []) in
    record {
      given = h.apart.given q r there;
      no_row = λ d x m e.
          let k = mem_keep (goes_if which d) x ((view p).rows d) (subst (λ (v : View). Mem x (v.rows d)) (applied (Leave which) p tt) m) in
          let queue : q ≡ d = h.apart.alone q d r x there k.0 e in
          cc (k.1, queue, ap not (among_one q r.message.ident x (sym e)));
      no_put = λ n a m e. h.apart.waiting n a q r m there (sym e);
    }

pub moves : (from queue : List ℕ) (r : Row) (m : Message) (p : Plain) → Sound p → Mem r ((view p).rows from) → r.by ≡ None → m.ident ≡ r.message.ident → Sound (apply_all (Leave (Among from (m.ident ∷ [])) ∷ placed queue m) p)
moves from queue r m p h there free is =
    let gone : Sound (apply (Leave (Among from (r.message.ident ∷ []))) p) = sound_left p from (r ∷ []) h (one r there free) in
    subst (λ (i : Ident). Sound (apply_all (Leave (Among from (i ∷ [])) ∷ placed queue m) p)) (sym is)
    (sound_placed queue m (apply (Leave (Among from (r.message.ident ∷ []))) p) gone
    (subst (λ (i : Ident). IsNew i (view (apply (Leave (Among from (r.message.ident ∷ []))) p)).rows (view p).puts (view p).unborn) (sym is) (left_new p from r h there)))
  where
    one : (r : Row) → Mem r ((view p).rows from) → r.by ≡ None → (x : Row) → Mem x (r ∷ []) → Mem x ((view p).rows from) × (x.by ≡ None)
    one r there free x (inl e) = (subst (λ (y : Row). Mem y ((view p).rows from)) (sym e) there, ap (λ (y : Row). y.by) e ∙ free)
    one r there free x (inr m) = absurd m

move_part_keeps : (from : List ℕ) (to : Dest) (bare : Bool) (l : Landing) (r : Row) (p : Plain) → Sound p → Mem r ((view p).rows from) → r.by ≡ None → l.message.ident ≡ r.message.ident → Sound (do_part (move_part from to bare l) p)
move_part_keeps from to bare l r p h there free is =
    let w : Option LogRecord = moved_forced from l in
    moves from l.queue r l.message (logged w p) (sound_logged w p h) (subst (λ (v : View). Mem r (v.rows from)) (sym (view_logged w p)) there) free is

bare_same : (bare : Bool) (m : Message) → (bare_if bare m).ident ≡ m.ident
bare_same true m = refl
bare_same false m = refl

move_resolved_keeps : (from : List ℕ) (to : Dest) (bare : Bool) (o : Result Route Reason) (m : Message) (r : Row) (p : Plain) → Sound p → Mem r ((view p).rows from) → r.by ≡ None → m.ident ≡ r.message.ident → Keeps (move_resolved from to bare o m p) p
move_resolved_keeps from to bare (Err reason) m r p h there free is = tt
move_resolved_keeps from to bare (Ok route) m r p h there free is = tested_keeps (route_tests route (length m.body) p ++ when (move_full from (landing route m) p) reasons.ResourceProblem ∷ []) _ p
    (λ e. (move_part_keeps from to bare (landing route m) r p h there free is, tt))

pub move_row_keeps : (from : List ℕ) (ident : Ident) (to : Dest) (bare : Bool) (p : Plain) → Sound p → CanMove from ident bare p → Keeps (move_row from ident to bare p) p
move_row_keeps from ident to bare p h can = at (find (has_ident ident) (stored from p).rows) refl
  where
    at : (o : Option Row) → find (has_ident ident) (stored from p).rows ≡ o → Keeps (move_found from to bare (elim o as (λ x. Option Message) [ None ↦ None | Some row ↦ Some row.message ]) p) p
    at None e = tt
    at (Some r) e = let k = find_mem ident ((view p).rows from) r e in
        move_resolved_keeps from to bare (resolve p.definitions p.given.name to.queue to.qmgr) (bare_if bare r.message) r p h k.0 (is_loose from ident p h can.free r k.0 k.1) (bare_same bare r.message)
