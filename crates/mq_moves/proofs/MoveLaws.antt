-- A row that moves: it goes from one queue, and waits for its place on another.
use Rattle.std.proofs.Common.{◌≡◌, ℕ, ◌+◌, ◌<◌, ◌≤◌, ◌^◌, Bool, true, false, cond, List, [], ◌∷◌, ◌++◌, length, refl, ap, arith, sym, subst, ◌∙◌}
use Rattle.std.specs.Prelude.{Option, Some, None, Ok, Err, IsSome, is_some, find, not, ◌&&◌, ◌||◌}
use Rattle.std.specs.List.{list_any}
use Rattle.std.specs.Str.{bytes_eq}
use Rattle.mq_queue.proofs.Edits.{same_is}
use Rattle.mq_calls.specs.State.{Queue as StateQueue}
use Rattle.mq_calls.specs.Words.{Ident, Message, Row, Among, Plain, has_ident, same_ident, keep, kept_in, selects, queue_in, local_of, apply, place, try_trigger}
use Rattle.mq_agents.specs.from_core.Counting.{CanCount}
use Rattle.mq_calls.specs.State.Change.{Leave}
use Rattle.mq_calls.specs.declared.state.Item.TheVariants.{Put}
use Rattle.mq_log.specs.State.{LogState}
use Rattle.mq_agents.specs.from_place.States.{QueueState, queues_of, state_in, change_state, on_queues, expecting, unpended}
use Rattle.mq_agents.specs.from_core.Views.{PartsValue, plain_of}
use Rattle.mq_agents.specs.from_core.Ties.{TiedBut, Tied, EndsReady, IsReady, HasCounts, AreCounted, mode_is_up, state_lanes, pending_at, one_if, times_in_rows, times_in_queues, times_in_units}
use Rattle.mq_agents.specs.from_core.Placing.{with_states, put_in_place}
use Rattle.mq_agents.proofs.from_core.PlaceLaws.{name_is, same_name, ready, tied_placed, placed_view, seen_kept, pending_changed}
use Rattle.mq_agents.proofs.from_core.ForceLaws.{seen_on, times_on, times_keep}
use Rattle.mq_agents.proofs.from_core.PutLaws.{queues_same, kept_queue, waits_more, counts_low}
use Rattle.mq_agents.specs.from_record.Room.{Buffered}
use Rattle.mq_calls.specs.Words.{Noted, Part, note_of, Step, Do, Reason, Dest, ManagerValue, MeetsOrWants, apply_all, is_persistent, need}
use Rattle.mq_calls.specs.declared.records.LogRecord.{LogRecord}
use Rattle.mq_calls.specs.Meeting.Wants.{Anywhere}
use Rattle.mq_spec_manager.specs.Words.{placed}
use Rattle.mq_calls.specs.declared.records.LogRecord.TheVariants as records
use Rattle.mq_calls.specs.declared.deltas.Did.TheVariants as did
use Rattle.mq_agents.specs.from_core.Forced.{IsForced, IsExpected, given_back}
use Rattle.mq_agents.specs.Removing.{removed_one}
use Rattle.mq_moves.specs.Moving.{moved_step, downed_move}
use Rattle.mq_base.specs.Outside.{Rose}
use Rattle.mq_disk.specs.declared.cutter.Stop.{Stop}
use Rattle.mq_disk.specs.declared.cutter.Stop.TheVariants as stops
use Rattle.mq_log.specs.Force.{Stops}
use Rattle.mq_calls.specs.declared.commands.Halt.TheVariants as halts
use Rattle.mq_agents.specs.from_record.Room.{with_piece}
use Rattle.mq_agents.specs.from_record.Records.{CanBeKept, record_bytes, moved_front}
use Rattle.mq_frame.specs.Frames.{message_bytes}
use Rattle.mq_calls.specs.Words.{freeze, logged, put_bytes, is_int, route_size}
use Rattle.mq_calls.specs.declared.commands.Halt.{Halt}
use Rattle.mq_agents.specs.from_core.StoppedWriteVariants as writes
use Rattle.mq_agents.specs.from_core.Views.{frozen_of, noted}
use Rattle.mq_agents.proofs.from_core.ForceLaws.{forced_view, frozen_view, tied_downed}
use Rattle.mq_agents.proofs.from_core.PutLaws.{expected_view, given_up, tied_roomier, roomier_view}
use Rattle.mq_agents.specs.from_core.Values.{CoreValue, WritesLog, AreRecords, behind_record, pending_record, wrote_all}
use Rattle.mq_agents.specs.from_core.Writes.{FitsRecord}
use Rattle.mq_agents.proofs.WriteLaws.{wrote_as, broke_as, broke_told}
use Rattle.mq_agents.proofs.RemoveLaws.{removed_view}
use Rattle.mq_agents.proofs.EndLaws.{free_as}

-- the row is gone from one queue, and waits for the other
pub record OnMove (from : List ℕ) (i : Ident) (queue : List ℕ) (x w : PartsValue) : Type 0 where
  pub same : w ≡ record (removed_one from i (with_states (change_state queue expecting x.queues.states) x)) { log = w.log; body = w.body }
  pub live : w.log.live ≡ x.log.live
  pub settled : w.log.pending ≡ x.log.pending
  pub spare : w.log.spare ≡ x.log.spare
  pub reserved : w.log.reserved ≡ x.log.reserved
  pub max : w.log.max ≡ x.log.max
  pub room : mode_is_up x.mode ≡ true → x.log.reserved ≤ w.log.room
  pub body : mode_is_up x.mode ≡ true → x.log.reserved ≤ w.body.room + length w.body.bytes

gone : List ℕ → Ident → StateQueue → StateQueue
gone from i q = kept_in (Among from (i ∷ [])) q

-- the rows of the ident are gone from the queue

left_none : (from : List ℕ) (i : Ident) (rows : List Row) → times_in_rows i (keep (λ (row : Row). not (true && list_any (same_ident row.message.ident) (i ∷ []))) rows) ≡ 0
left_none from i [] = refl
left_none from i (row ∷ rows) = by (same_ident row.message.ident i) refl (left_none from i rows)
  where
    by : (b : Bool) → same_ident row.message.ident i ≡ b → times_in_rows i (keep (λ (row : Row). not (true && list_any (same_ident row.message.ident) (i ∷ []))) rows) ≡ 0
        → times_in_rows i (cond (not (true && (b || false))) (row ∷ keep (λ (row : Row). not (true && list_any (same_ident row.message.ident) (i ∷ []))) rows) (keep (λ (row : Row). not (true && list_any (same_ident row.message.ident) (i ∷ []))) rows)) ≡ 0
    by true e rest = rest
    by false e rest = let none = ap one_if e in omega (arith, none, rest)

pub left_out : (from : List ℕ) (i : Ident) (qs : List QueueState) → times_in_queues i (queues_of (on_queues (kept_in (Among from (i ∷ []))) qs)) + times_in_rows i (queue_in from (queues_of qs)).rows ≤ times_in_queues i (queues_of qs)
left_out from i [] = omega arith
left_out from i (s ∷ ss) = by (bytes_eq from s.queue.name) refl (left_out from i ss) (times_on i (kept_in (Among from (i ∷ []))) (λ q. times_keep i (λ (row : Row). not (selects (Among from (i ∷ [])) q.name row)) q.rows) ss)
  where
    by : (b : Bool) → bytes_eq from s.queue.name ≡ b
        → times_in_queues i (queues_of (on_queues (kept_in (Among from (i ∷ []))) ss)) + times_in_rows i (queue_in from (queues_of ss)).rows ≤ times_in_queues i (queues_of ss)
        → times_in_queues i (queues_of (on_queues (kept_in (Among from (i ∷ []))) ss)) ≤ times_in_queues i (queues_of ss)
        → times_in_rows i (kept_in (Among from (i ∷ [])) s.queue).rows + times_in_queues i (queues_of (on_queues (kept_in (Among from (i ∷ []))) ss)) + times_in_rows i (cond b s.queue (queue_in from (queues_of ss))).rows ≤ times_in_rows i s.queue.rows + times_in_queues i (queues_of ss)
    by true e rest less =
        let named : bytes_eq s.queue.name from ≡ true = ap (λ (n : List ℕ). bytes_eq n from) (sym (name_is from s.queue.name e)) ∙ same_name from in
        let none : times_in_rows i (kept_in (Among from (i ∷ [])) s.queue).rows ≡ 0 =
        ap (λ (b : Bool). times_in_rows i (keep (λ (row : Row). not (b && list_any (same_ident row.message.ident) (i ∷ []))) s.queue.rows)) named ∙ left_none from i s.queue.rows in
        omega (arith, none, less)
    by false e rest less = let here = times_keep i (λ (row : Row). not (selects (Among from (i ∷ [])) s.queue.name row)) s.queue.rows in omega (arith, here, rest)

-- what is seen of the queues on the way
abbrev move_state : List ℕ → Ident → List ℕ → PartsValue → List QueueState
move_state from i queue x = on_queues (kept_in (Among from (i ∷ []))) (change_state queue expecting x.queues.states)

-- a row with the ident stands once
there_is : (i : Ident) (rows : List Row) (row : Row) → find (has_ident i) rows ≡ Some row → 1 ≤ times_in_rows i rows
there_is i [] row e = absurd cc
there_is i (x ∷ rows) row e = by (has_ident i x) e (there_is i rows row)
  where
    by : (b : Bool) → cond b (Some x) (find (has_ident i) rows) ≡ Some row → (find (has_ident i) rows ≡ Some row → 1 ≤ times_in_rows i rows) → 1 ≤ one_if b + times_in_rows i rows
    by true e rest = omega arith
    by false e rest = let more = rest e in omega (arith, more)

pub tied_on_move : (from : List ℕ) (i : Ident) (queue : List ℕ) (m : Message) (row : Row) (x w : PartsValue) → IsSome (local_of queue x.defs.definitions) → find (has_ident i) (queue_in from (queues_of x.queues.states)).rows ≡ Some row → m.ident ≡ i
    → OnMove from i queue x w → Tied x → TiedBut (Put queue m ∷ []) w
tied_on_move from i queue m row x w there found ident o t =
    let kept = kept_queue queue x t there in
    let f = kept_in (Among from (i ∷ [])) in
    let some = change_state queue expecting x.queues.states in
    let same = queues_same queue expecting (λ s. refl) x.queues.states in
    let one = there_is i (queue_in from (queues_of x.queues.states)).rows row found in
    subst (TiedBut (Put queue m ∷ [])) (sym o.same) (record {
      up = λ u. let old = t.up u in record { live = o.live ∙ old.live; settled = o.settled ∙ old.settled; ends = subst (EndsReady x.ends) (sym o.spare) old.ends; room = let a = o.room u in omega (arith, a, o.reserved); body = let a = o.body u in omega (arith, a, o.reserved) };
      reserved = λ u. o.reserved ∙ t.reserved u;
      within = λ u. let w = t.within u in omega (arith, o.reserved, o.max, w);
      queues = record {
        lanes = λ name. seen_on f (λ q. refl) state_lanes (λ s. refl) name some ∙ seen_kept queue expecting (λ s. refl) state_lanes (λ s. refl) name x.queues.states kept.0 kept.1 ∙ t.queues.lanes name;
        pending = λ name. seen_on f (λ q. refl) pending_at (λ s. refl) name some
            ∙ pending_changed queue expecting (λ s. refl) (λ n. n + 1) (λ s. refl) name x.queues.states kept.0 kept.1 ∙ waits_more (bytes_eq name queue) _ _ (let p = t.queues.pending name in omega (arith, p));
      };
      idents = record {
        once = λ k. by k (same_ident m.ident k) refl;
        given = λ k a b d. after k (t.idents.given k a b d) (same_ident m.ident k) refl;
      };
      forced = t.forced;
      max = omega (arith, o.max, t.max);
      moment = t.moment;
    })
  where
    one_row : 1 ≤ times_in_rows i (queue_in from (queues_of x.queues.states)).rows
    one_row = there_is i (queue_in from (queues_of x.queues.states)).rows row found

    less : (k : Ident) → times_in_queues k (queues_of (move_state from i queue x)) ≤ times_in_queues k (queues_of x.queues.states)
    less k =
        let all = times_on k (kept_in (Among from (i ∷ []))) (λ q. times_keep k (λ (r : Row). not (selects (Among from (i ∷ [])) q.name r)) q.rows) (change_state queue expecting x.queues.states) in
        let same = ap (times_in_queues k) (queues_same queue expecting (λ s. refl) x.queues.states) in
        omega (arith, all, same)

    none : times_in_queues i (queues_of (move_state from i queue x)) + times_in_rows i (queue_in from (queues_of x.queues.states)).rows ≤ times_in_queues i (queues_of x.queues.states)
    none =
        let out = left_out from i (change_state queue expecting x.queues.states) in
        let same = ap (times_in_queues i) (queues_same queue expecting (λ s. refl) x.queues.states) in
        let rows = ap (λ (qs : List StateQueue). times_in_rows i (queue_in from qs).rows) (queues_same queue expecting (λ s. refl) x.queues.states) in
        omega (arith, out, same, rows)

    is_it : (k : Ident) → same_ident m.ident k ≡ true → i ≡ k
    is_it k e = sym ident ∙ same_is m.ident k e

    by : (k : Ident) (b : Bool) → same_ident m.ident k ≡ b → times_in_queues k (queues_of (move_state from i queue x)) + times_in_units k x.desk.live + (one_if b + 0) ≤ 1
    by k true e =
        let at = is_it k e in
        subst (λ (j : Ident). times_in_queues j (queues_of (move_state from i queue x)) + times_in_units j x.desk.live + 1 ≤ 1) at
        (let old = t.idents.once i in omega (arith, old, none, one_row))
    by k false e = let old = t.idents.once k in let fewer = less k in omega (arith, old, fewer)

    after : (k : Ident) → times_in_queues k (queues_of x.queues.states) + times_in_units k x.desk.live + 0 ≡ 0 → (b : Bool) → same_ident m.ident k ≡ b
        → times_in_queues k (queues_of (move_state from i queue x)) + times_in_units k x.desk.live + (one_if b + 0) ≡ 0
    after k old true e =
        let at = is_it k e in
        let zero : times_in_queues i (queues_of x.queues.states) + times_in_units i x.desk.live + 0 ≡ 0 = subst (λ (j : Ident). times_in_queues j (queues_of x.queues.states) + times_in_units j x.desk.live + 0 ≡ 0) (sym at) old in
        absurd (omega (arith, zero, none, one_row))
    after k old false e = let fewer = less k in omega (arith, old, fewer)

-- counters are low enough for one more
abbrev arrivals_at : Option QueueState → ℕ
arrivals_at None = 0
arrivals_at (Some s) = s.queue.arrivals

abbrev due_at : Option QueueState → ℕ
due_at None = 0
due_at (Some s) = s.queue.due

few : (most : ℕ) (o : Option QueueState) → ((s : QueueState) → o ≡ Some s → HasCounts most s) → (arrivals_at o + pending_at o ≤ most) × (due_at o + pending_at o ≤ most)
few most None h = (omega arith, omega arith)
few most (Some s) h = let c = h s refl in (c.arrivals, c.due)

one_more : (b : Bool) (n : ℕ) → cond b (n + 1) n ≤ n + 1
one_more true n = omega arith
one_more false n = omega arith

pub move_counts : (from : List ℕ) (i : Ident) (queue : List ℕ) (x w : PartsValue) → IsSome (local_of queue x.defs.definitions) → OnMove from i queue x w → Tied x → CanCount (plain_of x) → AreCounted (2 ^ 63 + 1) w
move_counts from i queue x w there o t low = subst (AreCounted (2 ^ 63 + 1)) (sym o.same) (λ name s is.
    let kept = kept_queue queue x t there in
    let f = kept_in (Among from (i ∷ [])) in
    let some = change_state queue expecting x.queues.states in
    let old = few (2 ^ 63) (state_in name x.queues.states) (counts_low x t low name) in
    let arrivals = ap arrivals_at (sym is) ∙ seen_on f (λ q. refl) arrivals_at (λ s. refl) name some ∙ seen_kept queue expecting (λ s. refl) arrivals_at (λ s. refl) name x.queues.states kept.0 kept.1 in
    let due = ap due_at (sym is) ∙ seen_on f (λ q. refl) due_at (λ s. refl) name some ∙ seen_kept queue expecting (λ s. refl) due_at (λ s. refl) name x.queues.states kept.0 kept.1 in
    let pending = ap pending_at (sym is) ∙ seen_on f (λ q. refl) pending_at (λ s. refl) name some ∙ pending_changed queue expecting (λ s. refl) (λ n. n + 1) (λ s. refl) name x.queues.states kept.0 kept.1 in
    let more = one_more (bytes_eq name queue) (pending_at (state_in name x.queues.states)) in
    record { arrivals = omega (arith, arrivals, pending, more, old.0); due = omega (arith, due, pending, more, old.1) })

pub move_ready : (from : List ℕ) (i : Ident) (queue : List ℕ) (m : Message) (row : Row) (x w : PartsValue) → IsSome (local_of queue x.defs.definitions) → find (has_ident i) (queue_in from (queues_of x.queues.states)).rows ≡ Some row → m.ident ≡ i
    → OnMove from i queue x w → Tied x → CanCount (plain_of x) → IsReady queue m w
move_ready from i queue m row x w there found ident o t low = ready (2 ^ 63 + 1) queue m [] w (omega arith) (move_counts from i queue x w there o t low) (tied_on_move from i queue m row x w there found ident o t)

pub move_tied : (from : List ℕ) (i : Ident) (queue : List ℕ) (m : Message) (row : Row) (x w : PartsValue) → IsSome (local_of queue x.defs.definitions) → find (has_ident i) (queue_in from (queues_of x.queues.states)).rows ≡ Some row → m.ident ≡ i
    → OnMove from i queue x w → Tied x → CanCount (plain_of x) → Tied (put_in_place queue m w)
move_tied from i queue m row x w there found ident o t low =
    tied_placed queue m [] w (move_ready from i queue m row x w there found ident o t low) (tied_on_move from i queue m row x w there found ident o t)

-- what the plain manager then is
place_and_try : List ℕ → Message → Plain → Plain
place_and_try queue m p = try_trigger queue m.md.priority (place queue m p)

leave_one : List ℕ → Ident → Plain → Plain
leave_one from i p = apply (Leave (Among from (i ∷ []))) p

pub moved_seen : (from : List ℕ) (i : Ident) (queue : List ℕ) (m : Message) (z : PartsValue) (p : Plain) → mode_is_up z.mode ≡ true → IsReady queue m (removed_one from i z) → plain_of z ≡ p
    → plain_of (put_in_place queue m (removed_one from i z)) ≡ apply_all (Leave (Among from (i ∷ [])) ∷ placed queue m) p
unfolding place_and_try leave_one
moved_seen from i queue m z p up r e =
    placed_view queue m (removed_one from i z) r ∙ ap (place_and_try queue m) (removed_view from i z up ∙ ap (leave_one from i) e)

-- behind its record, and without one
put_out : List ℕ → Ident → LogState → Buffered → PartsValue → PartsValue
put_out from i log body z = record (removed_one from i z) { log = log; body = body }

pub move_free : (from : List ℕ) (i : Ident) (queue : List ℕ) (x y : PartsValue) → IsExpected queue 0 x y → Tied x → OnMove from i queue x (removed_one from i y)
unfolding put_out
move_free from i queue x y e t =
    let is = ap (λ (z : PartsValue). z.log) e.same in
    record {
      same = ap (put_out from i y.log y.body) e.same;
      live = ap (λ (l : LogState). l.live) is;
      settled = ap (λ (l : LogState). l.pending) is;
      spare = ap (λ (l : LogState). l.spare) is;
      reserved = ap (λ (l : LogState). l.reserved) is;
      max = ap (λ (l : LogState). l.max) is;
      room = λ u. let w = (t.up u).room in omega (arith, w, e.more);
      body = λ u. let w = (t.up u).body in omega (arith, w, e.body);
    }

with_rest : LogState → Buffered → PartsValue → PartsValue
with_rest log body z = record z { log = log; body = body }

pub move_forced : (from : List ℕ) (i : Ident) (queue : List ℕ) (n : ℕ) (r : LogRecord) (x y z : PartsValue) → n ≡ need r → IsExpected queue n x y → IsForced r y (Ok tt) z → Tied x → OnMove from i queue x (removed_one from i (given_back n z))
unfolding with_rest
move_forced from i queue n r x y z en e f t =
    let is = ap (λ (z : PartsValue). z.log) e.same in
    let wrote = f.log in
    record {
      same = ap (λ (v : PartsValue). removed_one from i (with_rest z.log (given_back n z).body v)) (f.same ∙ ap (with_rest z.log z.body) e.same);
      live = ap (λ (l : LogState). l.live) wrote ∙ ap (λ (l : LogState). l.live) is;
      settled = ap (λ (l : LogState). l.pending) wrote ∙ ap (λ (l : LogState). l.pending) is;
      spare = ap (λ (l : LogState). l.spare) wrote ∙ ap (λ (l : LogState). l.spare) is;
      reserved = ap (λ (l : LogState). l.reserved) wrote ∙ ap (λ (l : LogState). l.reserved) is;
      max = ap (λ (l : LogState). l.max) wrote ∙ ap (λ (l : LogState). l.max) is;
      room = λ u. omega (arith, f.room, e.log, en);
      body = λ u. let w = (t.up u).body in omega (arith, w, e.body, f.body);
    }

-- how the step of a message that does not last ends
move_if : Bool → List ℕ → Dest → Bool → List ℕ → Message → Step Reason (Unit {0})
move_if b from target bare to m = Do tt (record {
  forced = cond b (Some (records.Moved from m.ident to m)) None;
  changes = Leave (Among from (m.ident ∷ [])) ∷ placed to m;
  delta = did.Moved from m.ident to target bare ∷ [];
} ∷ [])

pub free_moves : (v new : ManagerValue) (from : List ℕ) (target : Dest) (bare : Bool) (to : List ℕ) (m : Message) → is_persistent m ≡ false
    → new.plain ≡ apply_all (Leave (Among from (m.ident ∷ [])) ∷ placed to m) v.plain → new.delta ≡ did.Moved from m.ident to target bare ∷ [] → new.stopped ≡ None → new.faults ≡ v.faults
    → MeetsOrWants v (moved_step from target bare to m) (Ok (let nothing : Unit {0} = tt in nothing)) new
unfolding move_if
free_moves v new from target bare to m free plain told stopped faults =
    let nothing : Unit {0} = tt in
    subst (λ (b : Bool). MeetsOrWants v (move_if b from target bare to m) (Ok nothing) new) (sym free)
    (free_as Reason Anywhere v new nothing nothing (Leave (Among from (m.ident ∷ [])) ∷ placed to m) (did.Moved from m.ident to target bare ∷ []) refl plain told stopped faults)

kept_persistent : (m : Message) → CanBeKept m → is_persistent m ≡ true
kept_persistent m k = ap (is_int 1) k.persistent

pub forced_moves : (v new : ManagerValue) (from : List ℕ) (target : Dest) (bare : Bool) (to : List ℕ) (m : Message) → CanBeKept m
    → new.plain ≡ apply_all (Leave (Among from (m.ident ∷ [])) ∷ placed to m) (logged (Some (records.Moved from m.ident to m)) v.plain) → new.delta ≡ did.Moved from m.ident to target bare ∷ [] → new.stopped ≡ None
    → v.faults ≤ new.faults → (0 < v.plain.log.armed → 4 < v.plain.log.armed) → MeetsOrWants v (moved_step from target bare to m) (Ok (let nothing : Unit {0} = tt in nothing)) new
unfolding move_if
forced_moves v new from target bare to m kept plain told stopped faults ran =
    let nothing : Unit {0} = tt in
    subst (λ (b : Bool). MeetsOrWants v (move_if b from target bare to m) (Ok nothing) new) (sym (kept_persistent m kept))
    (wrote_as Reason Anywhere v new nothing nothing (records.Moved from m.ident to m) (Leave (Among from (m.ident ∷ [])) ∷ placed to m) (did.Moved from m.ident to target bare ∷ []) refl plain told stopped faults ran)

-- what is noted of it
abbrev pub moved_note : List ℕ → Dest → Bool → List ℕ → Message → Option Noted
moved_note from target bare to m = Some (record {
  written = records.Moved from m.ident to m;
  changes = Leave (Among from (m.ident ∷ [])) ∷ placed to m;
  delta = did.Moved from m.ident to target bare ∷ [];
})

note_if : Bool → List ℕ → Dest → Bool → List ℕ → Message → Option Noted
note_if b from target bare to m =
    let part : Part = record {
      forced = cond b (Some (records.Moved from m.ident to m)) None;
      changes = Leave (Among from (m.ident ∷ [])) ∷ placed to m;
      delta = did.Moved from m.ident to target bare ∷ [];
    } in note_of part part.forced

pub noted_moved : (from : List ℕ) (target : Dest) (bare : Bool) (to : List ℕ) (m : Message) (frozen : Plain) → CanBeKept m → noted frozen (Some (writes.Moved from target bare to m)) ≡ moved_note from target bare to m
unfolding note_if
noted_moved from target bare to m frozen kept = ap (λ (b : Bool). note_if b from target bare to m) (kept_persistent m kept)

pub stopped_moves : (v new : ManagerValue) (from : List ℕ) (target : Dest) (bare : Bool) (to : List ℕ) (m : Message) (stop : Stop) (halt : Halt Reason) → halt ≡ halts.Stopped stop → CanBeKept m
    → new.plain ≡ freeze (moved_note from target bare to m) new.plain.log.armed v.plain → new.delta ≡ [] → new.stopped ≡ Some stop
    → Stops v.plain.log.armed (Err stop) new.plain.log.armed → v.faults ≤ new.faults → (stop ≡ stops.Disk → Rose v.faults new.faults) → MeetsOrWants v (moved_step from target bare to m) (Err halt) new
unfolding move_if
stopped_moves v new from target bare to m stop halt is kept plain told stopped ends later rose =
    let nothing : Unit {0} = tt in
    subst (λ (b : Bool). MeetsOrWants v (move_if b from target bare to m) (Err halt) new) (sym (kept_persistent m kept))
    (broke_as Anywhere v new nothing (records.Moved from m.ident to m) (Leave (Among from (m.ident ∷ [])) ∷ placed to m) (did.Moved from m.ident to target bare ∷ []) stop halt is plain told stopped ends later rose)

-- the write of a move was stopped
up_to : List ℕ → PartsValue → PartsValue
up_to queue x = with_states (change_state queue unpended x.queues.states) x

still_forced : (queue : List ℕ) (r : LogRecord) (stop : Stop) (y z : PartsValue) → IsForced r y (Err stop) z → IsForced r (up_to queue y) (Err stop) (up_to queue z)
unfolding up_to
still_forced queue r stop y z f = record { same = ap (up_to queue) f.same; log = f.log; fits = f.fits; size = f.size; ends = f.ends; room = f.room; body = f.body; later = f.later; disk = f.disk }

freeze_as : Option Noted → ℕ → Plain → Plain
freeze_as note left p = freeze note left p

still_up : (queue : List ℕ) (n : ℕ) (x y : PartsValue) → mode_is_up x.mode ≡ true → IsExpected queue n x y → mode_is_up y.mode ≡ true
still_up queue n x y up e = ap (λ (z : PartsValue). mode_is_up z.mode) e.same ∙ up

pub move_stopped_view : (from : List ℕ) (target : Dest) (bare : Bool) (to : List ℕ) (m : Message) (n : ℕ) (r : LogRecord) (stop : Stop) (x y z : PartsValue) → mode_is_up x.mode ≡ true → CanBeKept m → IsExpected to n x y → IsForced r y (Err stop) z
    → plain_of (downed_move from target bare to m z) ≡ freeze (moved_note from target bare to m) z.log.armed (plain_of x)
unfolding up_to freeze_as
move_stopped_view from target bare to m n r stop x y z up kept e f =
    frozen_view (writes.Moved from target bare to m) r (up_to to y) (up_to to z) stop (still_up to n x y up e) (still_forced to r stop y z f)
    ∙ (λ i. freeze_as (noted_moved from target bare to m (frozen_of (up_to to y)) kept i) z.log.armed (roomier_view x (up_to to y) (given_up to n x y e) i))

pub move_stopped_tied : (from : List ℕ) (target : Dest) (bare : Bool) (to : List ℕ) (m : Message) (n : ℕ) (r : LogRecord) (stop : Stop) (x y z : PartsValue) → IsExpected to n x y → IsForced r y (Err stop) z → Tied x → Tied (downed_move from target bare to m z)
unfolding up_to
move_stopped_tied from target bare to m n r stop x y z e f t =
    tied_downed (writes.Moved from target bare to m) r [] (up_to to y) (up_to to z) stop (still_forced to r stop y z f) (tied_roomier x (up_to to y) (given_up to n x y e) t)

-- behind its record
with_log : LogRecord → Plain → Plain
with_log r p = logged (Some r) p

pub moved_on : (queue : List ℕ) (n k : ℕ) (r : LogRecord) (x y z : PartsValue) (p : Plain) → mode_is_up x.mode ≡ true → IsExpected queue n x y → IsForced r y (Ok tt) z → plain_of x ≡ p → plain_of (given_back k z) ≡ logged (Some r) p
unfolding with_log
moved_on queue n k r x y z p up e f is = forced_view r y z (still_up queue n x y up e) f ∙ ap (with_log r) (expected_view queue n x y e ∙ is)

route_is : (o : Option Dest) → cond (is_some o) 96 0 ≡ route_size o
route_is None = refl
route_is (Some d) = refl

route_small : (o : Option Dest) → route_size o ≤ 96
route_small None = omega arith
route_small (Some d) = omega arith

pub need_moved : (from to : List ℕ) (m : Message) → 71 + put_bytes m ≡ need (records.Moved from m.ident to m)
need_moved from to m = let route = route_is m.route in omega (arith, route)

pub short_moved : (from to : List ℕ) (m : Message) → CanBeKept m → need (records.Moved from m.ident to m) < 2 ^ 32
short_moved from to m k = let short = k.words.body in let route = route_small m.route in omega (arith, short, route)

-- The bytes of its record, piece by piece.
pub moved_are : (from to : List ℕ) (m : Message) (front : List ℕ) (c p a : Buffered) → c.bytes ≡ [] → front ≡ moved_front from m.ident to → p ≡ with_piece front c → a ≡ with_piece (message_bytes m) p
    → (a.bytes ≡ record_bytes (records.Moved from m.ident to m)) × (a.bytes ≡ front ++ message_bytes m)
moved_are from to m front c p a none is first second =
    let pieces = ap (λ (b : Buffered). b.bytes) second ∙ ap (λ (b : Buffered). b.bytes ++ message_bytes m) first ∙ ap (λ (bs : List ℕ). (bs ++ front) ++ message_bytes m) none in
    (pieces ∙ ap (λ (bs : List ℕ). bs ++ message_bytes m) is, pieces)

-- what is then in the log
part_if : Bool → List ℕ → Dest → Bool → List ℕ → Message → Part
part_if b from target bare to m = record {
  forced = cond b (Some (records.Moved from m.ident to m)) None;
  changes = Leave (Among from (m.ident ∷ [])) ∷ placed to m;
  delta = did.Moved from m.ident to target bare ∷ [];
}

pub free_told : (v new : CoreValue) (from : List ℕ) (target : Dest) (bare : Bool) (to : List ℕ) (m : Message) → is_persistent m ≡ false → new.log ≡ v.log → WritesLog v (moved_step from target bare to m) (Ok (let nothing : Unit {0} = tt in nothing)) new
unfolding part_if
free_told v new from target bare to m free e = subst (λ (b : Bool). (new.log ≡ wrote_all (part_if b from target bare to m ∷ []) v.log) × AreRecords (part_if b from target bare to m ∷ [])) (sym free) (e, (tt, tt))

pub forced_told : (v new : CoreValue) (from : List ℕ) (target : Dest) (bare : Bool) (to : List ℕ) (m : Message) → CanBeKept m → FitsRecord (records.Moved from m.ident to m) → new.log ≡ behind_record (Some (records.Moved from m.ident to m)) v.log
    → WritesLog v (moved_step from target bare to m) (Ok (let nothing : Unit {0} = tt in nothing)) new
unfolding part_if
forced_told v new from target bare to m kept fits e = subst (λ (b : Bool). (new.log ≡ wrote_all (part_if b from target bare to m ∷ []) v.log) × AreRecords (part_if b from target bare to m ∷ [])) (sym (kept_persistent m kept)) (e, (fits, tt))

pub stopped_told : (v new : CoreValue) (from : List ℕ) (target : Dest) (bare : Bool) (to : List ℕ) (m : Message) (stop : Stop) (halt : Halt Reason) → halt ≡ halts.Stopped stop → CanBeKept m → FitsRecord (records.Moved from m.ident to m)
    → new.plain ≡ freeze (moved_note from target bare to m) new.plain.log.armed v.plain → new.log ≡ pending_record (Some (records.Moved from m.ident to m)) v.log
    → WritesLog v (moved_step from target bare to m) (Err halt) new
unfolding move_if part_if
stopped_told v new from target bare to m stop halt is kept fits plain log =
    let nothing : Unit {0} = tt in
    subst (λ (b : Bool). WritesLog v (move_if b from target bare to m) (Err halt) new) (sym (kept_persistent m kept))
    (broke_told v new halt stop nothing (part_if true from target bare to m) is refl fits plain log)
