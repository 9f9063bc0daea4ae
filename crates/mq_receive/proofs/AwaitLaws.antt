-- A batch whose messages wait for their places: what ties the parts, and what is seen of them.
use Rattle.std.proofs.Common.{◌≡◌, ℕ, ◌+◌, ◌≤◌, ◌^◌, Bool, true, false, cond, List, [], ◌∷◌, length, refl, ap, arith, sym, subst, ◌∙◌}
use Rattle.std.specs.Prelude.{Option, Some, None, IsSome, is_some}
use Rattle.std.specs.List.{AllByRecursion}
use Rattle.std.specs.Str.{bytes_eq}
use Rattle.mq_objects.specs.declared.object.Definitions.{Definitions}
use Rattle.mq_log.specs.State.{LogState}
use Rattle.mq_record.specs.Room.{Buffered}
use Rattle.mq_calls.specs.State.{Queue as StateQueue}
use Rattle.mq_calls.specs.Words.{Plain, local_of, apply_all}
use Rattle.mq_core.specs.from_place.States.{QueueState, QueueStates, queues_of, state_in, change_state, expecting}
use Rattle.mq_core.specs.declared.parts.Arrival.{Arrival}
use Rattle.mq_core.specs.Views.{PartsValue, plain_of}
use Rattle.mq_core.specs.Ties.{EndsReady, Tied, AreCounted, HasCounts, mode_is_up, state_lanes, pending_at, one_if, times_in_queues, waits}
use Rattle.mq_core.specs.Placing.{with_states}
use Rattle.mq_core.specs.Counting.{CanCount}
use Rattle.mq_core.specs.Forced.{HasMoreRoom}
use Rattle.mq_core.specs.Writes.{standing_of, arrival_changes}
use Rattle.mq_core.proofs.PlaceLaws.{is_some_of, seen_kept, pending_changed}
use Rattle.mq_core.proofs.PutLaws.{more_room, queues_same, kept_queue, counts_low}
use Rattle.mq_receive.specs.Standings.{AreFitting}
use Rattle.mq_receive.specs.Placed.{expected_all, unexpected_in, puts_of, TiedOnWay, IsAwaited}
use Rattle.mq_receive.specs.Committed.{unawaited}
use Rattle.mq_receive.proofs.AheadLaws.{with_both, beside_landed}
use Rattle.mq_receive.proofs.ExpectLaws.{expected_undone}

-- Their queues are kept

abbrev pub AreKept : List Arrival → List QueueState → Type 0
AreKept landed qs = AllByRecursion (λ (a : Arrival). IsSome (state_in a.queue qs)) landed

some_as : (o k : Option QueueState) → is_some o ≡ is_some k → IsSome k → IsSome o
some_as o k e h = e ∙ h

kept_next : (at : List ℕ) (landed : List Arrival) (qs : List QueueState) → IsSome (state_in at qs) → AreKept landed qs → AreKept landed (change_state at expecting qs)
kept_next at [] qs here k = tt
kept_next at (a ∷ landed) qs here k =
    let s = is_some_of (state_in at qs) here in
    (some_as _ _ (seen_kept at expecting (λ s. refl) (λ (o : Option QueueState). is_some o) (λ s. refl) a.queue qs s.0 s.1) k.0, kept_next at landed qs here k.1)

definitions_same : (a : Arrival) (p : Plain) → (apply_all (arrival_changes a) p).definitions ≡ p.definitions
unfolding with_both
definitions_same a p = ap (λ (q : Plain). q.definitions) (beside_landed a.message (standing_of a.dropped) a.queue p)

abbrev pub AreDefined : List Arrival → Definitions → Type 0
AreDefined landed d = AllByRecursion (λ (a : Arrival). IsSome (local_of a.queue d)) landed

pub defined_all : (landed : List Arrival) (p : Plain) → AreFitting landed p → AreDefined landed p.definitions
defined_all [] p h = tt
defined_all (a ∷ landed) p h = (h.0.defined, subst (AreDefined landed) (definitions_same a p) (defined_all landed (apply_all (arrival_changes a) p) h.1))

some_is : (o : Option QueueState) (s : QueueState) → o ≡ Some s → IsSome o
some_is o s e = ap (λ (o : Option QueueState). is_some o) e

pub kept_all : (landed : List Arrival) (x : PartsValue) → Tied x → AreDefined landed x.defs.definitions → AreKept landed x.queues.states
kept_all [] x t h = tt
kept_all (a ∷ landed) x t h = let s = kept_queue a.queue x t h.0 in (some_is (state_in a.queue x.queues.states) s.0 s.1, kept_all landed x t h.1)

-- What is seen of a queue, however many wait for it

module _ {A : Type 0} (g : Option QueueState → A) (same : (s : QueueState) → g (Some (expecting s)) ≡ g (Some s)) where
  seen_all : (landed : List Arrival) (qs : List QueueState) → AreKept landed qs → (name : List ℕ) → g (state_in name (expected_all landed qs)) ≡ g (state_in name qs)
  seen_all [] qs k name = refl
  seen_all (a ∷ landed) qs k name =
      let s = is_some_of (state_in a.queue qs) k.0 in
      seen_all landed (change_state a.queue expecting qs) (kept_next a.queue landed qs k.0 k.1) name ∙ seen_kept a.queue expecting (λ s. refl) g same name qs s.0 s.1

one_more : (b : Bool) (n : ℕ) → cond b (n + 1) n ≡ n + one_if b
one_more true n = refl
one_more false n = omega arith

pending_all : (landed : List Arrival) (qs : List QueueState) → AreKept landed qs → (name : List ℕ) → pending_at (state_in name (expected_all landed qs)) ≡ pending_at (state_in name qs) + waits name (puts_of landed)
pending_all [] qs k name = omega arith
pending_all (a ∷ landed) qs k name =
    let s = is_some_of (state_in a.queue qs) k.0 in
    let rest = pending_all landed (change_state a.queue expecting qs) (kept_next a.queue landed qs k.0 k.1) name in
    let here = pending_changed a.queue expecting (λ s. refl) (λ n. n + 1) (λ s. refl) name qs s.0 s.1 ∙ one_more (bytes_eq name a.queue) (pending_at (state_in name qs)) in
    omega (arith, rest, here)

one_le : (b : Bool) → one_if b ≤ 1
one_le true = omega arith
one_le false = omega arith

waits_few : (name : List ℕ) (landed : List Arrival) → waits name (puts_of landed) ≤ length landed
waits_few name [] = omega arith
waits_few name (a ∷ landed) = let rest = waits_few name landed in let one = one_le (bytes_eq name a.queue) in omega (arith, rest, one)

pub queues_all : (landed : List Arrival) (qs : List QueueState) → queues_of (expected_all landed qs) ≡ queues_of qs
queues_all [] qs = refl
queues_all (a ∷ landed) qs = queues_all landed (change_state a.queue expecting qs) ∙ queues_same a.queue expecting (λ s. refl) qs

-- Counters are low enough for all of them

abbrev arrivals_at : Option QueueState → ℕ
arrivals_at None = 0
arrivals_at (Some s) = s.queue.arrivals

abbrev due_at : Option QueueState → ℕ
due_at None = 0
due_at (Some s) = s.queue.due

few : (most : ℕ) (o : Option QueueState) → ((s : QueueState) → o ≡ Some s → HasCounts most s) → (arrivals_at o + pending_at o ≤ most) × (due_at o + pending_at o ≤ most)
few most None h = (omega arith, omega arith)
few most (Some s) h = let c = h s refl in (c.arrivals, c.due)

-- the parts while they wait
pub record IsOnWay (landed : List Arrival) (x w : PartsValue) : Type 0 where
  pub same : w ≡ record (with_states (expected_all landed x.queues.states) x) { ends = w.ends; log = w.log; body = w.body }
  pub live : w.log.live ≡ x.log.live
  pub settled : w.log.pending ≡ x.log.pending
  pub ends : mode_is_up x.mode ≡ true → EndsReady w.ends w.log.spare
  pub reserved : w.log.reserved ≡ x.log.reserved
  pub max : w.log.max ≡ x.log.max
  pub room : mode_is_up x.mode ≡ true → x.log.reserved ≤ w.log.room
  pub body : mode_is_up x.mode ≡ true → x.log.reserved ≤ w.body.room + length w.body.bytes

pub on_way_counts : (landed : List Arrival) (x w : PartsValue) → AreDefined landed x.defs.definitions → IsOnWay landed x w → Tied x → CanCount (plain_of x) → AreCounted (2 ^ 63 + length landed) w
on_way_counts landed x w there o t low = subst (AreCounted (2 ^ 63 + length landed)) (sym o.same) (λ name s is.
    let kept = kept_all landed x t there in
    let old = few (2 ^ 63) (state_in name x.queues.states) (counts_low x t low name) in
    let arrivals = ap arrivals_at (sym is) ∙ seen_all arrivals_at (λ s. refl) landed x.queues.states kept name in
    let due = ap due_at (sym is) ∙ seen_all due_at (λ s. refl) landed x.queues.states kept name in
    let pending = ap pending_at (sym is) ∙ pending_all landed x.queues.states kept name in
    let more = waits_few name landed in
    record { arrivals = omega (arith, arrivals, pending, more, old.0); due = omega (arith, due, pending, more, old.1) })

pub on_way_tied : (landed : List Arrival) (x w : PartsValue) → AreDefined landed x.defs.definitions → IsOnWay landed x w → Tied x → TiedOnWay landed w
on_way_tied landed x w there o t =
    let kept = kept_all landed x t there in
    let same = queues_all landed x.queues.states in
    subst (TiedOnWay landed) (sym o.same) (record {
      up = λ u. let old = t.up u in record { live = o.live ∙ old.live; settled = o.settled ∙ old.settled; ends = o.ends u; room = let a = o.room u in omega (arith, a, o.reserved); body = let a = o.body u in omega (arith, a, o.reserved) };
      reserved = λ u. o.reserved ∙ t.reserved u;
      within = λ u. let w = t.within u in omega (arith, o.reserved, o.max, w);
      queues = record {
        lanes = λ name. seen_all state_lanes (λ s. refl) landed x.queues.states kept name ∙ t.queues.lanes name;
        pending = λ name. let p = t.queues.pending name in let more = pending_all landed x.queues.states kept name in omega (arith, p, more);
      };
      idents = record {
        once = λ i. let times = ap (times_in_queues i) same in let old = t.idents.once i in omega (arith, times, old);
        given = λ i a b c. let times = ap (times_in_queues i) same in let old = t.idents.given i a b c in omega (arith, times, old);
      };
      forced = t.forced;
      max = omega (arith, o.max, t.max);
      moment = t.moment;
    })

-- What is seen of the room that was taken, and given up

with_queues : Plain → List StateQueue → Plain
with_queues p qs = record p { queues = qs }

pub awaited_view : (landed : List Arrival) (n : ℕ) (x y : PartsValue) → IsAwaited landed n x y → plain_of y ≡ plain_of x
unfolding with_queues
awaited_view landed n x y e = ap plain_of e.same ∙ ap (with_queues (plain_of x)) (queues_all landed x.queues.states)

unawaited_by : List Arrival → PartsValue → PartsValue
unawaited_by landed x = unawaited landed x

with_all : PartsValue → QueueStates → LogState → Buffered → PartsValue
with_all x qs log body = record x { queues = qs; log = log; body = body }

pub unawaited_more : (landed : List Arrival) (n : ℕ) (x y : PartsValue) → IsAwaited landed n x y → HasMoreRoom x (unawaited landed y)
unfolding unawaited_by with_all
unawaited_more landed n x y e =
    let v : QueueStates = record x.queues { states = expected_all landed x.queues.states } in
    let l : LogState = record x.log { room = y.log.room } in
    more_room x (unawaited landed y) (ap (unawaited_by landed) e.same ∙ ap (λ (qs : QueueStates). with_all x qs l y.body) (expected_undone landed v (unexpected_in landed v) x.queues refl refl)) e.more (omega (arith, e.body))
