-- A put outside units: from the room that it takes to the row that stands.
use Rattle.std.proofs.Common.{◌≡◌, ℕ, ◌+◌, ◌-◌, ◌<◌, ◌≤◌, ◌^◌, Bool, true, false, cond, List, [], ◌∷◌, length, refl, ap, arith, sym, subst, ◌∙◌}
use Rattle.mq_base.specs.Outside.{Rose}
use Rattle.mq_disk.specs.declared.cutter.Stop.{Stop}
use Rattle.mq_disk.specs.declared.cutter.Stop.TheVariants as stops
use Rattle.mq_log.specs.Force.{Stops}
use Rattle.mq_sides.specs.from_record.Room.{Buffered}
use Rattle.mq_sides.specs.from_record.Records.{CanBeKept}
use Rattle.mq_core.specs.declared.parts.StoppedWrite.{StoppedWrite}
use Rattle.mq_core.specs.declared.parts.StoppedWrite.TheVariants as writes
use Rattle.std.specs.Prelude.{if◌then◌else◌, is_some, Option, Some, None, Ok, Err, IsSome}
use Rattle.std.specs.List.{AllByRecursion}
use Rattle.std.specs.Str.{bytes_eq}
use Rattle.std.proofs.lemmas.Bool.Decides.{nat_tests}
use Rattle.mq_calls.specs.State.{Queue as StateQueue}
use Rattle.mq_calls.specs.Words.{Ident, Dest, Message, Reason, LocalQueue, Plain, Part, ManagerValue, Meets, IsCounted, need, is_persistent, local_of, logged, apply, apply_all, Noted, Step, freeze, note_of, is_int, same_ident, puts_to, place, try_trigger, condition, put_bytes, route_size, Do}
use Rattle.mq_calls.specs.declared.answers.Sent.{Sent}
use Rattle.mq_calls.specs.declared.answers.Answer.{Answer}
use Rattle.mq_calls.specs.declared.records.LogRecord.{LogRecord}
use Rattle.mq_core.specs.Counting.{CanCount}
use Rattle.mq_calls.specs.State.Change.{CountIdent}
use Rattle.mq_calls.specs.declared.state.Item.TheVariants.{Put}
use Rattle.mq_calls.specs.declared.deltas.Did.TheVariants as did
use Rattle.mq_calls.specs.declared.commands.Halt.TheVariants as halts
use Rattle.mq_spec_manager.specs.Words.{next_ident, placed, sent_answer}
use Rattle.mq_log.specs.State.{LogState}
use Rattle.mq_place.specs.States.{QueueState, queues_of, state_in, change_state, expecting, unpended}
use Rattle.mq_place.specs.Rooms.{RowsKept}
use Rattle.mq_core.specs.Views.{PartsValue, plain_of, frozen_of, noted}
use Rattle.mq_core.specs.Writes.{added, now_part}
use Rattle.mq_core.specs.Calls.{now_step}
use Rattle.mq_core.specs.Ties.{TiedBut, Tied, EndsReady, IsReady, HasCounts, AreCounted, state_lanes, local_lanes, pending_at, times_in_queues, times_in_units, one_if, mode_is_up}
use Rattle.mq_core.specs.Placing.{with_states, arrived_at, due_if, put_in_place}
use Rattle.mq_sides.specs.Bonds.{KeepsSeats}
use Rattle.mq_sides.proofs.BondLaws.{all_seated}
use Rattle.mq_core.specs.Forced.{IsForced, IsExpected, HasMoreRoom, roomier_ends, counted_put, downed_put}
use Rattle.mq_core.proofs.PlaceLaws.{name_is, some_same, state_named, state_changed, state_other, seen_kept, pending_changed, ready, placed_view, tied_placed}
use Rattle.mq_core.proofs.ForceLaws.{forced_view, frozen_view, tied_where, tied_downed, stops_at}

-- the queues as the plain manager sees them stay where a put more waits
pub queues_same : (at : List ℕ) (f : QueueState → QueueState) → ((s : QueueState) → (f s).queue ≡ s.queue) → (qs : List QueueState) → queues_of (change_state at f qs) ≡ queues_of qs
queues_same at f same [] = refl
queues_same at f same (s ∷ ss) = by (bytes_eq at s.queue.name) (queues_same at f same ss)
  where
    by : (b : Bool) → queues_of (change_state at f ss) ≡ queues_of ss → queues_of (cond b (f s ∷ ss) (s ∷ change_state at f ss)) ≡ s.queue ∷ queues_of ss
    by true rest = ap (λ (q : StateQueue). q ∷ queues_of ss) (same s)
    by false rest = ap (λ (qs : List StateQueue). s.queue ∷ qs) rest

-- a put is on the way: its ident was given, and it waits
pub record OnWay (queue : List ℕ) (m : Message) (x w : PartsValue) : Type 0 where
  pub same : w ≡ record (with_states (change_state queue expecting x.queues.states) x) { idents = x.idents + 1; log = w.log; body = w.body }
  pub live : w.log.live ≡ x.log.live
  pub settled : w.log.pending ≡ x.log.pending
  pub spare : w.log.spare ≡ x.log.spare
  pub reserved : w.log.reserved ≡ x.log.reserved
  pub max : w.log.max ≡ x.log.max
  pub room : mode_is_up x.mode ≡ true → x.log.reserved ≤ w.log.room
  pub body : mode_is_up x.mode ≡ true → x.log.reserved ≤ w.body.room + length w.body.bytes
  pub ident : m.ident ≡ next_ident (plain_of x)

-- the queue of a definition is kept
pub kept_queue : (queue : List ℕ) (x : PartsValue) → Tied x → IsSome (local_of queue x.defs.definitions) → (s : QueueState) × (state_in queue x.queues.states ≡ Some s)
kept_queue queue x t there = by (state_in queue x.queues.states) refl (local_of queue x.defs.definitions) there (t.queues.lanes queue)
  where
    by : (o : Option QueueState) → state_in queue x.queues.states ≡ o → (d : Option LocalQueue) → IsSome d → state_lanes o ≡ local_lanes d → (s : QueueState) × (state_in queue x.queues.states ≡ Some s)
    by (Some s) is d there lanes = (s, is)
    by None is None there lanes = absurd cc
    by None is (Some q) there lanes = absurd cc

pub waits_more : (b : Bool) (n k : ℕ) → n ≡ k → cond b (n + 1) n ≡ k + (one_if b + 0)
waits_more true n k e = omega (arith, e)
waits_more false n k e = omega (arith, e)

-- an ident that was not given yet
fresh_of : (i : Ident) (number incarnation idents : ℕ) → same_ident (record { manager = number; incarnation = incarnation; number = idents + 1 }) i ≡ true → (i.manager ≡ number) × (i.incarnation ≡ incarnation) × (idents < i.number)
fresh_of i number incarnation idents s = (grind (arith, nat_tests, s), grind (arith, nat_tests, s), grind (arith, nat_tests, s))

pub fresh_number : (m i : Ident) (number incarnation idents : ℕ) → m ≡ record { manager = number; incarnation = incarnation; number = idents + 1 } → same_ident m i ≡ true → (i.manager ≡ number) × (i.incarnation ≡ incarnation) × (idents < i.number)
fresh_number m i number incarnation idents e s = fresh_of i number incarnation idents (subst (λ (k : Ident). same_ident k i ≡ true) e s)

pub later_number : (m i : Ident) (number incarnation idents : ℕ) → m ≡ record { manager = number; incarnation = incarnation; number = idents + 1 } → idents + 1 < i.number → same_ident m i ≡ false
later_number m i number incarnation idents e lt = let n : m.number ≡ idents + 1 = ap (λ (k : Ident). k.number) e in grind (arith, nat_tests, n, lt)

pub once_way : (b : Bool) (n : ℕ) → (b ≡ true → n ≡ 0) → n ≤ 1 → n + one_if b ≤ 1
once_way true n none old = let zero = none refl in omega (arith, zero)
once_way false n none old = omega (arith, old)

pub tied_on_way : (queue : List ℕ) (m : Message) (x w : PartsValue) → IsSome (local_of queue x.defs.definitions) → OnWay queue m x w → Tied x → TiedBut (Put queue m ∷ []) w
tied_on_way queue m x w there o t =
    let found = kept_queue queue x t there in
    let same = queues_same queue expecting (λ s. refl) x.queues.states in
    subst (TiedBut (Put queue m ∷ [])) (sym o.same) (record {
      up = λ u. let old = t.up u in record { live = o.live ∙ old.live; settled = o.settled ∙ old.settled; ends = subst (EndsReady x.ends) (sym o.spare) old.ends; room = let a = o.room u in omega (arith, a, o.reserved); body = let a = o.body u in omega (arith, a, o.reserved) };
      reserved = λ u. o.reserved ∙ t.reserved u;
      within = λ u. let w = t.within u in omega (arith, o.reserved, o.max, w);
      queues = record {
        lanes = λ name. seen_kept queue expecting (λ s. refl) state_lanes (λ s. refl) name x.queues.states found.0 found.1 ∙ t.queues.lanes name;
        pending = λ name. pending_changed queue expecting (λ s. refl) (λ n. n + 1) (λ s. refl) name x.queues.states found.0 found.1 ∙ waits_more (bytes_eq name queue) _ _ (let p = t.queues.pending name in omega (arith, p));
      };
      idents = record {
        once = λ i.
            let times = ap (times_in_queues i) same in
            let old = t.idents.once i in
            let one = once_way (same_ident m.ident i) (times_in_queues i (queues_of x.queues.states) + times_in_units i x.desk.live)
            (λ e. let n = fresh_number m.ident i x.number x.incarnation x.idents o.ident e in let none = t.idents.given i n.0 n.1 n.2 in omega (arith, none)) (omega (arith, old)) in
            omega (arith, times, one);
        given = λ i a b c.
            let times = ap (times_in_queues i) same in
            let other : one_if (same_ident m.ident i) ≡ 0 = ap one_if (later_number m.ident i x.number x.incarnation x.idents o.ident c) in
            let none = t.idents.given i a b (omega (arith, c)) in
            omega (arith, other, none, times);
      };
      forced = t.forced;
      max = omega (arith, o.max, t.max);
      moment = t.moment;
    })

-- counters are low enough for one more
queue_at : (P : StateQueue → Type 0) (name : List ℕ) (qs : List QueueState) (s : QueueState) → state_in name qs ≡ Some s → AllByRecursion P (queues_of qs) → P s.queue
queue_at P name [] s e h = absurd cc
queue_at P name (q ∷ qs) s e h = by (bytes_eq name q.queue.name) e (λ e. queue_at P name qs s e h.1)
  where
    by : (b : Bool) → cond b (Some q) (state_in name qs) ≡ Some s → (state_in name qs ≡ Some s → P s.queue) → P s.queue
    by true e rest = subst (λ (t : QueueState). P t.queue) (some_same q s e) h.0
    by false e rest = rest e

pub counts_low : (x : PartsValue) → Tied x → CanCount (plain_of x) → AreCounted (2 ^ 63) x
counts_low x t low name s is =
    let c = queue_at (IsCounted (2 ^ 63) (plain_of x)) name x.queues.states s is low.queues in
    let named = name_is name s.queue.name (state_named name x.queues.states s is) in
    let pending : s.pending ≡ puts_to s.queue.name x.desk.live = ap pending_at (sym is) ∙ (let p = t.queues.pending name in omega (arith, p)) ∙ ap (λ (n : List ℕ). puts_to n x.desk.live) named in
    record { arrivals = omega (arith, c.arrivals, pending); due = omega (arith, c.due, pending) }

counts_more : (most : ℕ) (queue : List ℕ) (qs : List QueueState) (s : QueueState) → state_in queue qs ≡ Some s → ((name : List ℕ) (t : QueueState) → state_in name qs ≡ Some t → HasCounts most t)
    → (name : List ℕ) (t : QueueState) → state_in name (change_state queue expecting qs) ≡ Some t → HasCounts (most + 1) t
counts_more most queue qs s e h name t is = by (bytes_eq name queue) refl
  where
    by : (b : Bool) → bytes_eq name queue ≡ b → HasCounts (most + 1) t
    by true n =
        let c = h queue s e in
        subst (HasCounts (most + 1)) (some_same (expecting s) t (sym (state_changed queue expecting (λ s. refl) qs s e) ∙ ap (λ (k : List ℕ). state_in k (change_state queue expecting qs)) (sym (name_is name queue n)) ∙ is))
        (record { arrivals = omega (arith, c.arrivals); due = omega (arith, c.due) })
    by false n = let c = h name t (sym (state_other queue expecting (λ s. refl) name n qs) ∙ is) in record { arrivals = omega (arith, c.arrivals); due = omega (arith, c.due) }

pub way_counts : (queue : List ℕ) (m : Message) (x w : PartsValue) → IsSome (local_of queue x.defs.definitions) → OnWay queue m x w → Tied x → CanCount (plain_of x) → AreCounted (2 ^ 63 + 1) w
way_counts queue m x w there o t low =
    let found = kept_queue queue x t there in
    subst (AreCounted (2 ^ 63 + 1)) (sym o.same) (counts_more (2 ^ 63) queue x.queues.states found.0 found.1 (counts_low x t low))

-- it is ready, and placed it is tied
pub way_ready : (queue : List ℕ) (m : Message) (x w : PartsValue) → IsSome (local_of queue x.defs.definitions) → OnWay queue m x w → Tied x → CanCount (plain_of x) → IsReady queue m w
way_ready queue m x w there o t low = ready (2 ^ 63 + 1) queue m [] w (omega arith) (way_counts queue m x w there o t low) (tied_on_way queue m x w there o t)

pub way_tied : (queue : List ℕ) (m : Message) (x w : PartsValue) → IsSome (local_of queue x.defs.definitions) → OnWay queue m x w → Tied x → CanCount (plain_of x) → Tied (put_in_place queue m w)
way_tied queue m x w there o t low = tied_placed queue m [] w (way_ready queue m x w there o t low) (tied_on_way queue m x w there o t)

-- the views on the way
with_queues : Plain → List StateQueue → Plain
with_queues p qs = record p { queues = qs }

count_ident : Plain → Plain
count_ident p = apply CountIdent p

place_and_try : List ℕ → Message → Plain → Plain
place_and_try queue m p = try_trigger queue m.md.priority (place queue m p)

with_rest : Buffered → LogState → PartsValue → PartsValue
with_rest body log z = record z { idents = z.idents + 1; body = body; log = log }

pub expected_view : (queue : List ℕ) (need : ℕ) (x y : PartsValue) → IsExpected queue need x y → plain_of y ≡ plain_of x
unfolding with_queues
expected_view queue need x y e = ap plain_of e.same ∙ ap (with_queues (plain_of x)) (queues_same queue expecting (λ s. refl) x.queues.states)

pub way_free : (queue : List ℕ) (m : Message) (need : ℕ) (x y : PartsValue) → m.ident ≡ next_ident (plain_of x) → IsExpected queue need x y → Tied x → OnWay queue m x (counted_put need y)
unfolding with_rest
way_free queue m need x y ident e t =
    let is = ap (λ (z : PartsValue). z.log) e.same in
    record {
      same = ap (with_rest (counted_put need y).body y.log) e.same;
      live = ap (λ (l : LogState). l.live) is;
      settled = ap (λ (l : LogState). l.pending) is;
      spare = ap (λ (l : LogState). l.spare) is;
      reserved = ap (λ (l : LogState). l.reserved) is;
      max = ap (λ (l : LogState). l.max) is;
      room = λ u. let w = (t.up u).room in omega (arith, w, e.more);
      body = λ u. let w = (t.up u).body in omega (arith, w, e.body);
      ident = ident;
    }

pub way_forced : (queue : List ℕ) (m : Message) (n : ℕ) (r : LogRecord) (x y z : PartsValue) → n ≡ need r → m.ident ≡ next_ident (plain_of x) → IsExpected queue n x y → IsForced r y (Ok tt) z → Tied x → OnWay queue m x (counted_put n z)
unfolding with_rest
way_forced queue m n r x y z en ident e f t =
    let is = ap (λ (z : PartsValue). z.log) e.same in
    let wrote = f.log in
    record {
      same = ap (with_rest (counted_put n z).body z.log) f.same ∙ ap (with_rest (counted_put n z).body z.log) e.same;
      live = ap (λ (l : LogState). l.live) wrote ∙ ap (λ (l : LogState). l.live) is;
      settled = ap (λ (l : LogState). l.pending) wrote ∙ ap (λ (l : LogState). l.pending) is;
      spare = ap (λ (l : LogState). l.spare) wrote ∙ ap (λ (l : LogState). l.spare) is;
      reserved = ap (λ (l : LogState). l.reserved) wrote ∙ ap (λ (l : LogState). l.reserved) is;
      max = ap (λ (l : LogState). l.max) wrote ∙ ap (λ (l : LogState). l.max) is;
      room = λ u. omega (arith, f.room, e.log, en);
      body = λ u. let w = (t.up u).body in omega (arith, w, e.body, f.body);
      ident = ident;
    }

still_up : (queue : List ℕ) (n : ℕ) (x y : PartsValue) → mode_is_up x.mode ≡ true → IsExpected queue n x y → mode_is_up y.mode ≡ true
still_up queue n x y up e = ap (λ (z : PartsValue). mode_is_up z.mode) e.same ∙ up

-- and in the end
pub free_done : (queue : List ℕ) (m : Message) (n : ℕ) (x y : PartsValue) → IsExpected queue n x y → IsReady queue m (counted_put n y)
    → plain_of (put_in_place queue m (counted_put n y)) ≡ apply_all (CountIdent ∷ placed queue m) (plain_of x)
unfolding count_ident place_and_try
free_done queue m n x y e r = placed_view queue m (counted_put n y) r ∙ ap (place_and_try queue m) (ap count_ident (expected_view queue n x y e))

pub forced_done : (queue : List ℕ) (m : Message) (n : ℕ) (r : LogRecord) (x y z : PartsValue) → mode_is_up x.mode ≡ true → IsExpected queue n x y → IsForced r y (Ok tt) z → IsReady queue m (counted_put n z)
    → plain_of (put_in_place queue m (counted_put n z)) ≡ apply_all (CountIdent ∷ placed queue m) (logged (Some r) (plain_of x))
unfolding count_ident place_and_try
forced_done queue m n r x y z up e f k =
    placed_view queue m (counted_put n z) k ∙ ap (place_and_try queue m) (ap count_ident (forced_view r y z (still_up queue n x y up e) f ∙ ap (λ (p : Plain). logged (Some r) p) (expected_view queue n x y e)))

-- a put that is given up waits no longer
pub unpend_expect : (at : List ℕ) (qs : List QueueState) → change_state at unpended (change_state at expecting qs) ≡ qs
unpend_expect at [] = refl
unpend_expect at (s ∷ ss) = by (bytes_eq at s.queue.name) refl (unpend_expect at ss)
  where
    less : s.pending + 1 - 1 ≡ s.pending
    less = omega arith

    by : (b : Bool) → bytes_eq at s.queue.name ≡ b → change_state at unpended (change_state at expecting ss) ≡ ss → change_state at unpended (cond b (expecting s ∷ ss) (s ∷ change_state at expecting ss)) ≡ s ∷ ss
    by true e rest = ap (λ (b : Bool). cond b (unpended (expecting s) ∷ ss) (expecting s ∷ change_state at unpended ss)) e ∙ ap (λ (n : ℕ). let t : QueueState = record s { pending = n } in t ∷ ss) less
    by false e rest = ap (λ (b : Bool). cond b (unpended s ∷ change_state at expecting ss) (s ∷ change_state at unpended (change_state at expecting ss))) e ∙ ap (λ (k : List QueueState). s ∷ k) rest

unpended_of : List ℕ → PartsValue → PartsValue
unpended_of queue x = with_states (change_state queue unpended x.queues.states) x

with_states_of : List QueueState → PartsValue → LogState → Buffered → PartsValue
with_states_of states x log body = record (with_states states x) { log = log; body = body }

-- more room was taken, and none set aside
with_aside : RowsKept → List (List ℕ) → ℕ → PartsValue → PartsValue
with_aside rows seats spare x = record x { ends = record x.ends { rows = rows; bound = record x.ends.bound { seats = seats } }; log = record x.log { spare = spare } }

pub more_room : (x y : PartsValue) → y ≡ record x { log = record x.log { room = y.log.room }; body = y.body } → x.log.room ≤ y.log.room → x.body.room + length x.body.bytes ≤ y.body.room + length y.body.bytes → HasMoreRoom x y
unfolding with_aside
more_room x y e log body =
    let rows : x.ends.rows ≡ y.ends.rows = sym (ap (λ (z : PartsValue). z.ends.rows) e) in
    let spare : x.log.spare ≡ y.log.spare = sym (ap (λ (z : PartsValue). z.log.spare) e) in
    let seats : x.ends.bound.seats ≡ y.ends.bound.seats = sym (ap (λ (z : PartsValue). z.ends.bound.seats) e) in
    let some = ap (λ (r : RowsKept). r.room + length r.rows) rows in
    record {
      same = e ∙ (λ i. with_aside (rows i) (seats i) (spare i) (record x { log = record x.log { room = y.log.room }; body = y.body }));
      log = log;
      spare = omega (arith, spare);
      rows = omega (arith, some);
      seats = subst (KeepsSeats x.ends.bound.seats) seats (λ name e. e);
      body = body;
    }

pub given_up : (queue : List ℕ) (n : ℕ) (x y : PartsValue) → IsExpected queue n x y → HasMoreRoom x (with_states (change_state queue unpended y.queues.states) y)
unfolding unpended_of with_states_of
given_up queue n x y e = more_room x (with_states (change_state queue unpended y.queues.states) y)
    (ap (unpended_of queue) e.same ∙ ap (λ (states : List QueueState). let l : LogState = record x.log { room = y.log.room } in with_states_of states x l y.body) (unpend_expect queue x.queues.states))
    e.more (omega (arith, e.body))

-- more room leaves channel ends ready, and all tied
pub ready_roomier : (x y : PartsValue) → HasMoreRoom x y → EndsReady x.ends x.log.spare → EndsReady y.ends y.log.spare
ready_roomier x y h w = subst (λ (p : PartsValue). EndsReady p.ends p.log.spare) (sym h.same) (record {
  log = let a = w.log in omega (arith, a, h.spare);
  rows = let a = w.rows in omega (arith, a, h.rows);
  senders = w.senders;
  receivers = w.receivers;
  seats = all_seated x.ends.bound.seats y.ends.bound.seats h.seats x.ends.receivers w.seats;
})

pub tied_roomier : (x y : PartsValue) → HasMoreRoom x y → Tied x → Tied y
tied_roomier x y h t = subst Tied (sym h.same) (tied_where [] [] (roomier_ends x.ends y.ends) (record x.log { room = y.log.room; spare = y.log.spare }) y.body x.mode x (λ u. let w = t.up u in record {
  live = w.live;
  settled = w.settled;
  ends = record { log = let a = w.ends.log in omega (arith, a, h.spare); rows = let a = w.ends.rows in omega (arith, a, h.rows); senders = w.ends.senders; receivers = w.ends.receivers; seats = all_seated x.ends.bound.seats y.ends.bound.seats h.seats x.ends.receivers w.ends.seats };
  room = omega (arith, w.room, h.log);
  body = omega (arith, w.body, h.body);
}) t.reserved t.within t.max t)

pub roomier_view : (x y : PartsValue) → HasMoreRoom x y → plain_of y ≡ plain_of x
roomier_view x y h = ap plain_of h.same

-- the write of a put was stopped
up_to : List ℕ → PartsValue → PartsValue
up_to queue x = with_states (change_state queue unpended x.queues.states) x

still_forced : (queue : List ℕ) (r : LogRecord) (stop : Stop) (y z : PartsValue) → IsForced r y (Err stop) z → IsForced r (up_to queue y) (Err stop) (up_to queue z)
unfolding up_to
still_forced queue r stop y z f = record { same = ap (up_to queue) f.same; log = f.log; fits = f.fits; size = f.size; ends = f.ends; room = f.room; body = f.body; later = f.later; disk = f.disk }

freeze_by : StoppedWrite → PartsValue → ℕ → Plain → Plain
freeze_by write x left p = freeze (noted (frozen_of x) (Some write)) left p

pub put_stopped_view : (queue : List ℕ) (m : Message) (n : ℕ) (r : LogRecord) (stop : Stop) (x y z : PartsValue) → mode_is_up x.mode ≡ true → IsExpected queue n x y → IsForced r y (Err stop) z
    → plain_of (downed_put queue m z) ≡ freeze (note_of (now_part queue m) (now_part queue m).forced) z.log.armed (plain_of x)
unfolding up_to freeze_by
put_stopped_view queue m n r stop x y z up e f =
    frozen_view (writes.Put queue m) r (up_to queue y) (up_to queue z) stop (still_up queue n x y up e) (still_forced queue r stop y z f)
    ∙ ap (freeze_by (writes.Put queue m) x z.log.armed) (roomier_view x (up_to queue y) (given_up queue n x y e))

pub put_stopped_tied : (queue : List ℕ) (m : Message) (n : ℕ) (r : LogRecord) (stop : Stop) (x y z : PartsValue) → IsExpected queue n x y → IsForced r y (Err stop) z → Tied x → Tied (downed_put queue m z)
unfolding up_to
put_stopped_tied queue m n r stop x y z e f t =
    tied_downed (writes.Put queue m) r [] (up_to queue y) (up_to queue z) stop (still_forced queue r stop y z f) (tied_roomier x (up_to queue y) (given_up queue n x y e) t)

-- How the steps end. Without a write:
step_if : Bool → Bool → List ℕ → Message → Step Reason (Answer Sent)
step_if b high queue m = Do (sent_answer high m) (record { forced = if b then Some (added queue m) else None; changes = CountIdent ∷ placed queue m; delta = did.Placed queue m.ident None ∷ [] } ∷ [])

pub free_meets : (v new : ManagerValue) (high : Bool) (queue : List ℕ) (m : Message) → is_persistent m ≡ false → new.plain ≡ apply_all (CountIdent ∷ placed queue m) v.plain → new.delta ≡ did.Placed queue m.ident None ∷ [] → new.stopped ≡ None → new.faults ≡ v.faults
    → Meets v (now_step high queue m) (Ok (sent_answer high m)) new
unfolding step_if
free_meets v new high queue m free plain told stopped faults =
    subst (λ (b : Bool). Meets v (step_if b high queue m) (Ok (sent_answer high m)) new) (sym free)
    (refl, (λ some. some), omega (arith, faults), (λ i. record { plain = plain i; delta = told i; stopped = stopped i; faults = new.faults }))

-- behind a write, or stopped in it
pub kept_persistent : (m : Message) → CanBeKept m → is_persistent m ≡ true
kept_persistent m k = ap (is_int 1) k.persistent

pub forced_meets : (v new : ManagerValue) (high : Bool) (queue : List ℕ) (m : Message) → CanBeKept m → new.plain ≡ apply_all (CountIdent ∷ placed queue m) (logged (Some (added queue m)) v.plain) → new.delta ≡ did.Placed queue m.ident None ∷ [] → new.stopped ≡ None
    → v.faults ≤ new.faults → (0 < v.plain.log.armed → 4 < v.plain.log.armed) → Meets v (now_step high queue m) (Ok (sent_answer high m)) new
unfolding step_if
forced_meets v new high queue m kept plain told stopped faults ran =
    subst (λ (b : Bool). Meets v (step_if b high queue m) (Ok (sent_answer high m)) new) (sym (kept_persistent m kept))
    (refl, ran, faults, (λ i. record { plain = plain i; delta = told i; stopped = stopped i; faults = new.faults }))

note_by : Bool → List ℕ → Message → Option Noted
note_by b queue m = let p : Part = record { forced = if b then Some (added queue m) else None; changes = CountIdent ∷ placed queue m; delta = did.Placed queue m.ident None ∷ [] } in note_of p p.forced

pub stopped_meets : (v new : ManagerValue) (high : Bool) (queue : List ℕ) (m : Message) (stop : Stop) → CanBeKept m → new.plain ≡ freeze (note_of (now_part queue m) (now_part queue m).forced) new.plain.log.armed v.plain → new.delta ≡ [] → new.stopped ≡ Some stop
    → Stops v.plain.log.armed (Err stop) new.plain.log.armed → v.faults ≤ new.faults → (stop ≡ stops.Disk → Rose v.faults new.faults) → Meets v (now_step high queue m) (Err (halts.Stopped stop)) new
unfolding step_if note_by
stopped_meets v new high queue m stop kept plain told stopped ends later rose =
    subst (λ (b : Bool). (new.plain ≡ freeze (note_by b queue m) new.plain.log.armed v.plain) → Meets v (step_if b high queue m) (Err (halts.Stopped stop)) new) (sym (kept_persistent m kept))
    (λ is. record { part = 0; write = refl; stop = stops_at stop v.plain.log.armed new.plain.log.armed ends; next = (λ i. record { plain = is i; delta = told i; stopped = stopped i; faults = new.faults }); later = later; rose = rose }) plain

-- what the record of one message needs
route_is : (o : Option Dest) → route_size o ≡ cond (is_some o) 96 0
route_is None = refl
route_is (Some d) = refl

pub need_added : (queue : List ℕ) (m : Message) → 14 + put_bytes m ≡ need (added queue m)
need_added queue m = let route = route_is m.route in omega (arith, route)

route_small : (o : Option Dest) → cond (is_some o) 96 0 ≤ 96
route_small None = omega arith
route_small (Some d) = omega arith

pub short_record : (queue : List ℕ) (m : Message) → CanBeKept m → need (added queue m) < 2 ^ 32
short_record queue m k = let e = need_added queue m in let short = k.words.body in let route = route_small m.route in omega (arith, e, short, route)

-- placing leaves the log
pub due_log : (b : Bool) (queue : List ℕ) (x : PartsValue) → (due_if b queue x).log ≡ x.log
due_log true queue x = refl
due_log false queue x = refl

pub placed_faults : (queue : List ℕ) (m : Message) (x : PartsValue) → (put_in_place queue m x).log.faults ≡ x.log.faults
placed_faults queue m x = let y = arrived_at queue m x in ap (λ (l : LogState). l.faults) (due_log (condition (local_of queue y.defs.definitions) m.md.priority (plain_of y)) queue y)
