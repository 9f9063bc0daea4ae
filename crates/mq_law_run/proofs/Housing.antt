-- A post of the ledger makes no places where none were.
use Rattle.std.proofs.Common.{ℕ, zero, suc, ◌≡◌, Bool, true, false, List, [], ◌∷◌, refl, map}
use Rattle.std.specs.Prelude.{Option, Some, None, Result, Ok, Err, slice_get}
use Rattle.mq_message.specs.declared.message.Ident.{Ident}
use Rattle.mq_message.specs.declared.message.Message.{Message}
use Rattle.mq_codes.specs.declared.reason.Reason.{Reason}
use Rattle.mq_queue.specs.declared.row.Row.{Row}
use Rattle.mq_resolve.specs.declared.route.Route.{Route}
use Rattle.mq_message.specs.declared.message.Dest.{Dest}
use Rattle.mq_calls.specs.declared.deltas.Did.{Did}
use Rattle.mq_calls.specs.declared.deltas.Did.TheVariants as did
use Rattle.mq_history.specs.declared.calls.Call.TheVariants as calls
use Rattle.mq_history.specs.declared.calls.Reply.{Reply}
use Rattle.mq_history.specs.declared.story.ManagerPlaces.{ManagerPlaces}
use Rattle.mq_spec_network.specs.Ledger as ledgers
use Rattle.mq_spec_network.specs.Ledger.{Ledger}
use Rattle.mq_spec_network.specs.Terms.{bare_if, names_of}
use Rattle.mq_law_run.specs.Run.{Housed}

same : (l : Ledger) → Housed l l
same l a y e = (y, e)

pub chain : (l k j : Ledger) → Housed l k → Housed k j → Housed l j
chain l k j f g a y e = let w = g a y e in f a w.0 w.1

changed : (m : ℕ) (f : ManagerPlaces → ManagerPlaces) (xs : List ManagerPlaces) (a : ℕ) (y : ManagerPlaces) → slice_get (ledgers.change_at m f xs) a ≡ Some y → (w : ManagerPlaces) × (slice_get xs a ≡ Some w)
changed m f [] a y e = (y, e)
changed zero f (x ∷ xs) zero y e = (x, refl)
changed zero f (x ∷ xs) (suc a) y e = (y, e)
changed (suc m) f (x ∷ xs) zero y e = (x, refl)
changed (suc m) f (x ∷ xs) (suc a) y e = changed m f xs a y e

mapped : (f : ManagerPlaces → ManagerPlaces) (xs : List ManagerPlaces) (a : ℕ) (y : ManagerPlaces) → slice_get (map f xs) a ≡ Some y → (w : ManagerPlaces) × (slice_get xs a ≡ Some w)
mapped f [] a y e = (y, e)
mapped f (x ∷ xs) zero y e = (x, refl)
mapped f (x ∷ xs) (suc a) y e = mapped f xs a y e

places : (m : ℕ) (f : ManagerPlaces → ManagerPlaces) (l : Ledger) → Housed l (ledgers.with_places m f l)
places m f l a y e = changed m f l.places a y e

taken : (t : Bool) (m : ℕ) (i : Ident) (l : Ledger) → Housed l (ledgers.take_if t m i l)
taken true m i l a y e = changed m _ l.places a y e
taken false m i l a y e = (y, e)

gone_if : (t : Bool) (m : ℕ) (i : Ident) (l : Ledger) → Housed l (ledgers.when t (ledgers.take m i) l)
gone_if true m i l = taken (ledgers.is_placed_at i (ledgers.places_at m l)) m i l
gone_if false m i l = same l

gone_one : (m : ℕ) (d : Did) (l : Ledger) → Housed l (ledgers.take_gone m d l)
gone_one m (did.Removed q i why) l = gone_if (ledgers.is_taken why) m i l
gone_one m (did.Placed q i dead) l = same l
gone_one m (did.Moved q i to target bare) l = same l
gone_one m (did.Held q i by_) l = same l
gone_one m (did.Released q i) l = same l
gone_one m (did.Hardened c note) l = same l
gone_one m (did.Prepared c u) l = same l
gone_one m (did.Received c u) l = same l

pub gone : (m : ℕ) (ds : List Did) (l : Ledger) → Housed l (ledgers.take_all_gone m ds l)
gone m [] l = same l
gone m (d ∷ ds) l = chain l (ledgers.take_gone m d l) (ledgers.take_all_gone m ds (ledgers.take_gone m d l)) (gone_one m d l) (gone m ds (ledgers.take_gone m d l))

moved_to : (m : ℕ) (x : Message) (r : Result Route Reason) (l : Ledger) → Housed l (ledgers.moved_to m x r l)
moved_to m x (Err reason) l = same l
moved_to m x (Ok route) l = chain l (ledgers.take_from m x.ident l) (ledgers.moved_to m x (Ok route) l) (places m _ l) (places m _ (ledgers.take_from m x.ident l))

move_row : (m : ℕ) (to : Dest) (bare : Bool) (o : Option Row) (l : Ledger) → Housed l (ledgers.move_row m to bare o l)
move_row m to bare None l = same l
move_row m to bare (Some row) l = moved_to m (bare_if bare row.message) (ledgers.resolved_at m to.queue to.qmgr l) l

move_one : (m : ℕ) (d : Did) (l : Ledger) → Housed l (ledgers.move m d l)
move_one m (did.Moved q i target to bare) l = move_row m to bare (ledgers.row_in i (ledgers.places_at m l).queues) l
move_one m (did.Removed q i why) l = same l
move_one m (did.Placed q i dead) l = same l
move_one m (did.Held q i by_) l = same l
move_one m (did.Released q i) l = same l
move_one m (did.Hardened c note) l = same l
move_one m (did.Prepared c u) l = same l
move_one m (did.Received c u) l = same l

moves : (m : ℕ) (ds : List Did) (l : Ledger) → Housed l (ledgers.move_all m ds l)
moves m [] l = same l
moves m (d ∷ ds) l = chain l (ledgers.move m d l) (ledgers.move_all m ds (ledgers.move m d l)) (move_one m d l) (moves m ds (ledgers.move m d l))

routed : (m : ℕ) (x : Message) (r : Result Route Reason) (l : Ledger) → Housed l (ledgers.place_routed m x r l)
routed m x (Err reason) l = same l
routed m x (Ok route) l = places m _ l

received : (m : ℕ) (c : List ℕ) (x : Message) (o : Option Reason) (l : Ledger) → Housed l (ledgers.place_received m c x o l)
received m c x None l = routed m x (ledgers.resolved_at m (names_of x.route).queue (names_of x.route).qmgr l) l
received m c x (Some reason) l = places m _ l

admitted : (t : Bool) (m : ℕ) (c : List ℕ) (x : Message) (o : Option Reason) (l : Ledger) → Housed l (ledgers.when t (ledgers.place_received m c x o) l)
admitted true m c x o l = received m c x o l
admitted false m c x o l = same l

listed : (m : ℕ) (c : List ℕ) (ds : List Did) (before : Ledger) (ms : List Message) (l : Ledger) → Housed l (ledgers.place_list m c ds before ms l)
listed m c ds before [] l = same l
listed m c ds before (x ∷ ms) l =
    let k : Ledger = ledgers.when (ledgers.is_admitted before x) (ledgers.place_received m c (ledgers.own_row before x) (ledgers.dead_reason x.ident ds)) l in
    chain l k (ledgers.place_list m c ds before ms k) (admitted (ledgers.is_admitted before x) m c (ledgers.own_row before x) (ledgers.dead_reason x.ident ds) l) (listed m c ds before ms k)

receives : (m : ℕ) (o : Option (List ℕ)) (ms : List Message) (ds : List Did) (l : Ledger) → Housed l (ledgers.receive_if m o ms ds l)
receives m None ms ds l = same l
receives m (Some c) ms ds l =
    let k : Ledger = ledgers.take_everywhere (ledgers.idents_of ms) l in
    chain l k (ledgers.place_list m c ds l ms k) (λ a y e. mapped _ l.places a y e) (listed m c ds l ms k)

-- of a turn
pub turned : (m : ℕ) (reply : Reply) (ms : List Message) (ds : List Did) (l : Ledger) → Housed l (ledgers.post_call m calls.Turn reply ms ds (ledgers.take_all_gone m ds l))
turned m reply ms ds l =
    let k : Ledger = ledgers.take_all_gone m ds l in
    let j : Ledger = ledgers.move_all m ds k in
    chain l k (ledgers.post_call m calls.Turn reply ms ds k) (gone m ds l) (chain k j (ledgers.receive_if m (ledgers.received_on ds) ms ds j) (moves m ds k) (receives m (ledgers.received_on ds) ms ds j))
