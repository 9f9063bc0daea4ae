-- Counters stay low: each event raises them by three at most, and a node makes few of them.
use Rattle.std.proofs.Common.{◌≡◌, ℕ, ◌+◌, ◌*◌, ◌^◌, ◌<◌, ◌≤◌, Bool, true, false, ◌||◌, nat_le, refl, sym, ap, subst, ◌∙◌, List, [], ◌∷◌, ◌++◌, length, map, arith}
use Rattle.std.proofs.lemmas.Bool.Decides.{nat_tests}
use Rattle.std.specs.Prelude.{Option, Some, None, Result, Ok, Err, if◌then◌else◌}
use Rattle.std.specs.List.{AllByRecursion}
use Rattle.std.specs.Str.{bytes_eq}
use Rattle.mq_base.specs.declared.want.NoMemory.{NoMemory as Want}
use Rattle.mq_calls.specs.declared.image.Shelf.{Shelf}
use Rattle.mq_history.specs.declared.calls.Call.TheVariants as calls
use Rattle.mq_calls.specs.State.{Given, LogState, Queue}
use Rattle.mq_queue.specs.declared.row.Row.{Row}
use Rattle.mq_calls.specs.Counts.{IsCounted}
use Rattle.mq_calls.specs.Reads.{queue_in, stored, puts_to}
use Rattle.mq_calls.specs.Images.{begun, numbered, queue_on, raised}
use Rattle.mq_calls.specs.declared.image.Image.{Image}
use Rattle.mq_spec_node.specs.Terms.{Acted, Actor, Call, Entry, History, Plain, started_need}
use Rattle.mq_spec_node.specs.Words.{Deed, Node, Surroundings, opening_node, after, done_by}
use Rattle.mq_manager.specs.from_law_manager.Facts.{AreNamed}
use Rattle.mq_manager.proofs.from_law_manager.Lists.{bool_case}
use Rattle.mq_manager.proofs.from_law_image.Growing.{handles_more}
use Rattle.mq_manager.proofs.from_law_log.Bridge.{all_of}
use Rattle.mq_law_counts.specs.Counts.{Climbs, IsCountedCall}
use Rattle.mq_law_counts.proofs.Deeds.{event_climbs}
use Rattle.mq_law_counts.proofs.Counted.{entry_found}
use Rattle.mq_events.specs.States.{NodeState, Spare, IsKept, IsLow, marked, node_in, value_of}
use Rattle.mq_events.specs.Counts.{AreAside, AreBelow, AreCounted, HasBound, HasFewRows, IsNode, KeepsCounts, kept_total, waiting_total}
use Rattle.mq_events.specs.Events.{ActsAs, Adds, EventIs, IsMqi, MayAct, ServesOne, Stays}
use Rattle.mq_events.proofs.KeepLaws.{begun_none, begun_waits, waiting_long}
use Rattle.mq_events.proofs.ReplayLaws.{after_more}
use Rattle.mq_events.proofs.MarkLaws.{begun_kept, mark_kept}
use Rattle.mq_events.proofs.RiseLaws.{risen_event, risen_more, risen_none, risen_still}

-- What the entry of an event did is the node behind it.
pub next_is : (who : Actor) (what : Call) (e : Entry) (s t : NodeState) → IsKept s → IsKept t → Adds who what e s t → node_in t ≡ (done_by e (node_in s)).next
next_is who what e s t k l a =
    let first : Node = opening_node s.given s.history in
    l.node
    ∙ ap (λ (g : Surroundings). after (opening_node g t.history) t.history.entries) a.grows.given
    ∙ ap (λ (h : History). after (opening_node s.given h) h.entries) a.grows.history
    ∙ after_more first s.history.entries e
    ∙ ap (λ (n : Node). (done_by e n).next) (sym k.node)

-- what climbs stays below
le_on : (a b m n : ℕ) → b ≤ a + n → a ≤ m → b ≤ m + n
le_on a b m n x y = omega (arith, x, y)

pub below_more : (n most : ℕ) (p q : Plain) → Climbs n p q → AreBelow most p → AreBelow (most + n) q
below_more n most p q r b = record {
  idents = le_on p.numbers.idents q.numbers.idents most n r.idents b.idents;
  connections = le_on p.numbers.connections q.numbers.connections most n r.connections b.connections;
  handles = r.handles most b.handles;
  arrivals = λ name. le_on ((stored name p).arrivals + puts_to name p.connections) ((stored name q).arrivals + puts_to name q.connections) most n (r.arrivals name) (b.arrivals name);
  due = λ name. le_on ((stored name p).due + puts_to name p.connections) ((stored name q).due + puts_to name q.connections) most n (r.due name) (b.due name);
}

fits_more : (most n old new long longer : ℕ) → most + old ≤ 2 ^ 62 + 1024 * long → longer ≡ long + 1 → new + n ≤ old + 1024 → most + n + new ≤ 2 ^ 62 + 1024 * longer
fits_more most n old new long longer f l k = omega (arith, f, l, k)

-- An event that raises them by so much, in one entry: the messages that receivers have kept count as raised already.
pub climbs_counted : (n : ℕ) (s t : NodeState) → AreCounted s → t.spare.few ≡ s.spare.few → length t.history.entries ≡ length s.history.entries + 1 → Climbs n s.manager.plain t.manager.plain → kept_total t.own + n ≤ kept_total s.own + 1024 → AreCounted t
climbs_counted n s t b few longer climbs kept = λ is.
    let h : HasBound (value_of s) = b (sym few ∙ is) in
    record {
      most = h.most + n;
      below = below_more n h.most s.manager.plain t.manager.plain climbs h.below;
      fits = fits_more h.most n (kept_total s.own) (kept_total t.own) (length s.history.entries) (length t.history.entries) h.fits longer kept;
    }

pub long_more : (xs : List Entry) (e : Entry) → length (xs ++ e ∷ []) ≡ length xs + 1
long_more [] e = refl
long_more (x ∷ xs) e = let h = long_more xs e in omega (arith, h)

pub adds_long : (who : Actor) (what : Call) (e : Entry) (s t : NodeState) → Adds who what e s t → length t.history.entries ≡ length s.history.entries + 1
adds_long who what e s t a = ap (λ (h : History). length h.entries) a.grows.history ∙ long_more s.history.entries e

three : (a b : ℕ) → a ≤ b → a + 3 ≤ b + 1024
three a b le = omega (arith, le)

pub counted_more : (who : Actor) (what : Call) (e : Entry) (s t : NodeState) → IsKept s → IsKept t → IsCountedCall what → AreCounted s → KeepsCounts s t → Adds who what e s t → AreCounted t
counted_more who what e s t k l c b q a =
    let climbs : Climbs 3 s.manager.plain (done_by e (node_in s)).next.manager = event_climbs e.stamp e.actor e.call e.chance e.effect.popped (node_in s) (subst IsCountedCall (sym a.call) c) in
    let C : Node → Type 0 = λ n. Climbs 3 s.manager.plain n.manager in
    climbs_counted 3 s t b (ap (λ (x : Spare). x.few) q.spare) (adds_long who what e s t a) (subst C (sym (next_is who what e s t k l a)) climbs) (three (kept_total t.own) (kept_total s.own) q.total)

pub counted_still : (s t : NodeState) → AreCounted s → KeepsCounts s t → Stays s t → AreCounted t
counted_still s t b q k = λ is. subst HasBound (sym k.same) (b (ap (λ (x : Spare). x.few) (sym q.spare) ∙ is))

-- With what a manager begins, each queue has counted its rows alone.
numbered_long : (n : ℕ) (rows : List Row) → length (numbered n rows) ≡ length rows
numbered_long n [] = refl
numbered_long n (row ∷ rows) = let h = numbered_long (n + 1) rows in omega (arith, h)

arrived : (name : List ℕ) (ss : List Shelf) → (queue_in name (map queue_on ss)).arrivals ≡ length (queue_in name (map queue_on ss)).rows
arrived name [] = refl
arrived name (s ∷ ss) = bool_case (bytes_eq name s.name) (λ b. (if b then queue_on s else queue_in name (map queue_on ss)).arrivals ≡ length (if b then queue_on s else queue_in name (map queue_on ss)).rows)
    (λ e. sym (numbered_long 0 s.rows)) (λ e. arrived name ss)

undue : (name : List ℕ) (ss : List Shelf) → (queue_in name (map queue_on ss)).due ≡ 0
undue name [] = refl
undue name (s ∷ ss) = bool_case (bytes_eq name s.name) (λ b. (if b then queue_on s else queue_in name (map queue_on ss)).due ≡ 0) (λ e. refl) (λ e. undue name ss)

none_le : 0 ≤ 2 ^ 62
none_le = omega arith

is_le : (a b : ℕ) → a ≡ b → b ≤ 2 ^ 62 → a + 0 ≤ 2 ^ 62
is_le a b e le = omega (arith, e, le)

pub begun_below : (given : Given) (image : Image) (log : LogState) (moment : ℕ) → HasFewRows (begun given image log moment) → AreBelow (2 ^ 62) (begun given image log moment)
begun_below given image log moment few = record {
  idents = none_le;
  connections = none_le;
  handles = tt;
  arrivals = λ name. is_le (queue_in name (map queue_on image.shelves)).arrivals (length (queue_in name (map queue_on image.shelves)).rows) (arrived name image.shelves) (few name);
  due = λ name. is_le (queue_in name (map queue_on image.shelves)).due 0 (undue name image.shelves) none_le;
}

first_fits : (kept long : ℕ) → kept ≡ 0 → 2 ^ 62 + kept ≤ 2 ^ 62 + 1024 * long
first_fits kept long e = omega (arith, e)

-- so behind a restart, too
pub fresh_counted : (s : NodeState) (given : Given) (image : Image) (log : LogState) (moment : ℕ) → s.manager.plain ≡ begun given image log moment → (s.spare.few ≡ true → HasFewRows s.manager.plain) → kept_total s.own ≡ 0 → AreCounted s
fresh_counted s given image log moment is few none = λ few_is. record {
  most = 2 ^ 62;
  below = subst (AreBelow (2 ^ 62)) (sym is) (begun_below given image log moment (subst HasFewRows is (few few_is)));
  fits = first_fits (kept_total s.own) (length s.history.entries) none;
}

-- with what a node begins
pub first_counted : (s : NodeState) → node_in s ≡ opening_node s.given s.history → (s.spare.few ≡ true → HasFewRows s.manager.plain) → AreCounted s
first_counted s is few =
    let h : History = s.history in
    fresh_counted s s.given.given (raised 0 h.opening) (record { length = h.length + started_need s.given.given; armed = 0 }) h.moment
    (ap (λ (n : Node). n.manager) is) few (ap (λ (n : Node). kept_total n.own) is ∙ begun_none (opening_node s.given h).manager s.given.own)

-- a node that may act has low counters
le_high : (a m n : ℕ) → m ≤ n → a ≤ m → a ≤ n
le_high a m n x y = omega (arith, x, y)

no_first : (a b : Bool) → (a || b) ≡ false → a ≡ false
no_first true b h = h
no_first false b h = refl

few : (n m : ℕ) → nat_le n m ≡ false → m < n
few n m h = grind (arith, nat_tests)

below_all : (most kept m : ℕ) → m < 2 ^ 48 → most + kept ≤ 2 ^ 62 + 1024 * m → most ≤ 2 ^ 63
below_all most kept m h f = omega (arith, h, f)

higher : (m n : ℕ) (p : Plain) → m ≤ n → AreBelow m p → AreBelow n p
higher m n p le b = record {
  idents = le_high p.numbers.idents m n le b.idents;
  connections = le_high p.numbers.connections m n le b.connections;
  handles = handles_more m n p.connections le b.handles;
  arrivals = λ name. le_high ((stored name p).arrivals + puts_to name p.connections) m n le (b.arrivals name);
  due = λ name. le_high ((stored name p).due + puts_to name p.connections) m n le (b.due name);
}

queues_counted : (most : ℕ) (p : Plain) → AreNamed p.queues → AreBelow most p → AllByRecursion (IsCounted most p) p.queues
queues_counted most p named b = all_of (IsCounted most p) p.queues (λ q m. record {
  arrivals = subst (λ (x : Queue). x.arrivals + puts_to q.name p.connections ≤ most) (entry_found p.queues named q m) (b.arrivals q.name);
  due = subst (λ (x : Queue). x.due + puts_to q.name p.connections ≤ most) (entry_found p.queues named q m) (b.due q.name);
})

pub node_low : (s : NodeState) → IsNode s → s.spare.few ≡ true → MayAct s → IsLow s
node_low s n is may = λ named.
    let h : HasBound (value_of s) = n.counted is in
    let room : length s.history.entries < 2 ^ 48 = few (2 ^ 48) (length s.history.entries) (no_first (nat_le (2 ^ 48) (length s.history.entries)) (nat_le (2 ^ 60) s.stamp) may) in
    let b : AreBelow (2 ^ 63) s.manager.plain = higher h.most (2 ^ 63) s.manager.plain (below_all h.most (kept_total s.own) (length s.history.entries) room h.fits) h.below in
    record { idents = b.idents; connections = b.connections; handles = b.handles; queues = queues_counted (2 ^ 63) s.manager.plain named b }

-- What is set aside suffices.
le_both : (a b c d : ℕ) → a ≤ b → b ≤ c → d ≡ c → a ≤ d
le_both a b c d x y e = omega (arith, x, y, e)

pub less_aside : (s t : NodeState) → AreAside s → t.spare ≡ s.spare → waiting_total t.own ≤ waiting_total s.own → AreAside t
less_aside s t a spare waits = le_both (waiting_total t.own) (waiting_total s.own) s.spare.aside t.spare.aside waits a (ap (λ (x : Spare). x.aside) spare)

pub aside_kept : (s t : NodeState) → AreAside s → KeepsCounts s t → AreAside t
aside_kept s t a q = less_aside s t a q.spare q.waits

none_waits : (a b : ℕ) → a ≡ 0 → a ≤ b
none_waits a b e = omega (arith, e)

first_aside : (s : NodeState) → node_in s ≡ opening_node s.given s.history → AreAside s
first_aside s is = none_waits (waiting_total s.own) s.spare.aside (ap (λ (n : Node). waiting_total n.own) is ∙ begun_waits (opening_node s.given s.history).manager s.given.own)

-- where an entry was set aside for each end, and there are no more ends
le_chain : (a b c d e : ℕ) → a ≤ b → b ≡ c → c ≤ d → e ≡ d → a ≤ e
le_chain a b c d e x i y j = omega (arith, x, i, y, j)

pub aside_long : (s t : NodeState) → length s.own.ends ≤ s.spare.aside → t.spare ≡ s.spare → length t.own.ends ≡ length s.own.ends → AreAside t
aside_long s t le spare long = le_chain (waiting_total t.own) (length t.own.ends) (length s.own.ends) s.spare.aside t.spare.aside (waiting_long t.own.ends) long le (ap (λ (x : Spare). x.aside) spare)

-- and that leaves a node what it is
le_up : (a b c : ℕ) → a ≤ b → b ≤ c → a ≤ c
le_up a b c x y = omega (arith, x, y)

pub set_aside_node : (s r : NodeState) → r ≡ record s { spare = r.spare; room = r.room } → r.spare.few ≡ s.spare.few → s.spare.aside ≤ r.spare.aside → IsNode s → IsNode r
set_aside_node s r e few more n = subst IsNode (sym e) (at r.spare r.room few more)
  where
    at : (spare : Spare) (room : ℕ) → spare.few ≡ s.spare.few → s.spare.aside ≤ spare.aside → IsNode (record s { spare = spare; room = room })
    at spare room same le = record { kept = n.kept; counted = λ is. n.counted (sym same ∙ is); risen = n.risen; aside = le_up (waiting_total s.own) s.spare.aside spare.aside n.aside le }

-- the calls of a node
mqi_counted : (what : Call) → IsMqi what → IsCountedCall what
mqi_counted (calls.Act act) m = absurd m
mqi_counted calls.Turn m = absurd m
mqi_counted calls.Timeout m = absurd m
mqi_counted calls.Trigger m = absurd m
mqi_counted _ m = tt

counted_event : (who : Actor) (what : Call) (d : Option Deed) (s : NodeState) (r : Result Bool Want) (t : NodeState) → IsKept s → IsKept t → IsMqi what → AreCounted s → KeepsCounts s t → EventIs who what d s r t → AreCounted t
counted_event who what d s (Err e) t k l m b q h = counted_still s t b q h
counted_event who what None s (Ok true) t k l m b q h = absurd h
counted_event who what (Some d) s (Ok true) t k l m b q h = counted_more who what h.0 s t k l (mqi_counted what m) b q h.1
counted_event who what None s (Ok false) t k l m b q h = counted_still s t b q h
counted_event who what (Some d) s (Ok false) t k l m b q h = absurd h

pub applied_counted : (who : Actor) (what : Call) (d : Option Deed) (s : NodeState) (r : Result Bool Want) (t : NodeState) → IsNode s → IsKept t → IsMqi what → KeepsCounts s t → EventIs who what d s r t → IsNode t
applied_counted who what d s r t n l m q h = record { kept = l; counted = counted_event who what d s r t n.kept l m n.counted q h; risen = risen_event who what d s r t n.risen h; aside = aside_kept s t n.aside q }

pub served_counted : (s : NodeState) (r : Result Bool Want) (t : NodeState) → IsNode s → IsKept t → KeepsCounts s t → ServesOne s r t → IsNode t
served_counted s (Ok true) t n l q h = record { kept = l; counted = counted_more h.0 calls.Trigger h.1 s t n.kept l tt n.counted q h.2; risen = risen_more h.0 calls.Trigger h.1 s t n.risen h.2; aside = aside_kept s t n.aside q }
served_counted s (Ok false) t n l q h = record { kept = l; counted = counted_still s t n.counted q h.0; risen = risen_still s t n.risen h.0; aside = aside_kept s t n.aside q }
served_counted s (Err e) t n l q h = record { kept = l; counted = counted_still s t n.counted q h; risen = risen_still s t n.risen h; aside = aside_kept s t n.aside q }

pub acted_counted : (who : Actor) (what : Call) (s : NodeState) (r : Result Acted Want) (t : NodeState) → IsCountedCall what → IsNode s → IsKept t → KeepsCounts s t → ActsAs who what s r t → IsNode t
acted_counted who what s (Ok a) t c n l q h = record { kept = l; counted = counted_more who what h.0 s t n.kept l c n.counted q h.1; risen = risen_more who what h.0 s t n.risen h.1; aside = aside_kept s t n.aside q }
acted_counted who what s (Err e) t c n l q h = record { kept = l; counted = counted_still s t n.counted q h; risen = risen_still s t n.risen h; aside = aside_kept s t n.aside q }

-- Where nothing is done, all is as it was.
same_stays : (s : NodeState) → Stays s s
same_stays s = record { same = refl; marks = refl; faults = omega arith }

pub same_event : (who : Actor) (what : Call) (d : Option Deed) (s : NodeState) (x : Want) → EventIs who what d s (Err x) s
same_event who what d s x = same_stays s

pub same_turn : (s : NodeState) (x : Want) → ServesOne s (Err x) s
same_turn s x = same_stays s

-- marks and openings
pub marked_counted : (idle : Bool) (s : NodeState) → IsNode s → IsNode (marked idle s)
marked_counted idle s n = record { kept = mark_kept idle s n.kept; counted = λ is. let h : HasBound (value_of s) = n.counted is in record { most = h.most; below = h.below; fits = h.fits }; risen = n.risen; aside = n.aside }

pub begun_counted : (s : NodeState) → s.history.entries ≡ [] → s.stamp ≡ 0 → s.history.number ≡ s.given.given.number → s.history.name ≡ s.given.given.name → node_in s ≡ opening_node s.given s.history → (few : Bool) → (few ≡ true → HasFewRows s.manager.plain)
    → IsNode (record s { spare = record s.spare { few = few } })
begun_counted s none stamp number name is few rows =
    let t : NodeState = record s { spare = record s.spare { few = few } } in
    record { kept = begun_kept t none stamp number name is; counted = first_counted t is rows; risen = risen_none t.history.entries t.manager.faults none; aside = first_aside s is }

pub spare_new : (s t : NodeState) → t ≡ record s { spare = record s.spare { few = t.spare.few } } → t ≡ record s { spare = t.spare }
spare_new s t e = e ∙ ap (λ (x : NodeState). record s { spare = x.spare }) (sym e)
