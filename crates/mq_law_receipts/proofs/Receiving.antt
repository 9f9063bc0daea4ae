-- A receiver's commit as the kind that it is: the network and its ledger have the facts behind it.
use Rattle.std.proofs.Common.{ℕ, ◌≡◌, ◌≢◌, Bool, true, false, not, List, [], ◌∷◌, ◌++◌, refl, ap, sym, subst, ◌∙◌, map}
use Rattle.std.specs.Prelude.{Option, Some, None, Ok, ◌==◌, if◌then◌else◌, ◌&&◌, slice_get, is_some}
use Rattle.std.specs.Str.{bytes_eq}
use Rattle.mq_codes.specs.declared.reason.Reason.{Reason}
use Rattle.mq_message.specs.declared.message.Ident.{Ident}
use Rattle.mq_message.specs.declared.message.Message.{Message}
use Rattle.mq_queue.specs.declared.row.Row.{Row}
use Rattle.mq_queue.specs.Rows.{insert_row, keep}
use Rattle.mq_sync.specs.declared.unit.Unit.{Unit as Luw}
use Rattle.mq_sync.specs.declared.data.InDoubt.{InDoubt}
use Rattle.mq_sync.specs.declared.data.ReceiverData.{ReceiverData}
use Rattle.mq_sync.specs.Settlement.{receiver_or}
use Rattle.mq_calls.specs.declared.deltas.Did.{Did}
use Rattle.mq_calls.specs.declared.deltas.Did.TheVariants as did
use Rattle.mq_calls.specs.declared.state.Batch.{Batch}
use Rattle.mq_history.specs.declared.calls.Call.TheVariants as calls
use Rattle.mq_history.specs.declared.calls.Reply.{Reply}
use Rattle.mq_history.specs.declared.scenario.CableLine.{CableLine}
use Rattle.mq_history.specs.declared.scenario.Scenario.{Scenario}
use Rattle.mq_history.specs.declared.story.ManagerPlaces.{ManagerPlaces}
use Rattle.mq_calls.specs.State.{Given, LogState, Plain}
use Rattle.mq_calls.specs.State.Change.{SetReceiver}
use Rattle.mq_calls.specs.Reads.{batch_of, connection_at, in_doubt_of, receiver_data, receiver_in, sender_data}
use Rattle.mq_calls.specs.Changes.{apply, apply_all}
use Rattle.mq_calls.specs.Steps.{do_part, written}
use Rattle.mq_spec_manager.specs.Agents.{Landed, landed, received_part, received_record, taken_of}
use Rattle.mq_spec_network.specs.Ledger as ledgers
use Rattle.mq_spec_network.specs.Ledger.{Ledger, dead_reason, idents_of, is_admitted, is_one_of, leave_queues, move_all, own_row, place_list, place_received, post_call, receive_if, take_all_gone, take_everywhere, unit_of, when}
use Rattle.mq_spec_network.specs.Promised.{AreDistinct}
use Rattle.mq_spec_network.specs.Standing.{cable_from, last_unit, last_unit_at, last_unit_of}
use Rattle.mq_spec_network.specs.Story.{Mem}
use Rattle.mq_law_events.specs.from_law_rows.Families.{is_here, put_at}
use Rattle.mq_law_events.specs.from_law_rows.World.{Book, Ghost, Inv, LanesRise, Mark, World, mark_of, tag_idents, tag_mark}
use Rattle.mq_law_events.specs.from_law_rows.Kinds.{Landing, among, book_receive, ghost_receive, landing_mark, landing_told, place_all}
use Rattle.mq_law_events.specs.from_law_rows.Kinds as kinds
use Rattle.mq_law_events.proofs.from_law_rows.Lists.{bool_case, eqb_self, eqb_yes, here_yes, is_false, keep_all, name_self, name_yes, true_false}
use Rattle.mq_law_events.proofs.from_law_rows.Receiving as receiving
use Rattle.mq_law_events.specs.from_law_seen.Seen.{book_of, doubt_of, held_unit, holds_of, last_of, rows_of, units_of, world_of}
use Rattle.mq_law_events.proofs.from_law_seen.Receipts.{Placing, landings, mapped_get, place_maybe, placing, receipt_rows, received_is}
use Rattle.mq_law_manager.specs.Facts.{IsSound}
use Rattle.mq_law_manager.proofs.Named.{receiver_set}
use Rattle.mq_law_manager.proofs.Receiving.{log_aside, with_log}
use Rattle.mq_law_manager.proofs.Units.{behind}
use Rattle.mq_law_events.specs.Posting.{IsTimed}
use Rattle.mq_law_events.specs.Tied.{IsNext, IsTold, connections_told}
use Rattle.mq_law_events.proofs.Putting.{place_told, unborn_by}
use Rattle.mq_law_events.proofs.Telling.{else_changed, left_shelved}
use Rattle.mq_law_receipts.specs.Receipts.{Comes, IsAwaitedAt, IsCabled, IsReceipt, IsShadow, Receipt}
use Rattle.mq_law_receipts.proofs.Coming.{doubt_unit}
use Rattle.mq_law_receipts.proofs.Knowing.{marks_tagged, comes_in, idents_tagged, own_in}
use Rattle.mq_law_receipts.proofs.Landing.{IsStill, Lands, batch_lands, batch_lands_by, dead_behind}

-- The ledger's step

pub posts : (t : ℕ) (c : List ℕ) (u : Luw) (reply : Reply) (ms : List Message) (ds : List Did) (l : Ledger) → IsStill ds
    → post_call t calls.Turn reply ms (ds ++ did.Received c u ∷ []) (take_all_gone t (ds ++ did.Received c u ∷ []) l) ≡ ledgers.receive t c ms (ds ++ did.Received c u ∷ []) l
posts t c u reply ms ds l k =
    let all : List Did = ds ++ did.Received c u ∷ [] in
    (λ i. receive_if t (k.receives (did.Received c u ∷ []) i) ms all (move_all t all (k.takes t (did.Received c u ∷ []) l i)))
    ∙ ap (λ x. receive_if t (Some c) ms all x) (k.moves t (did.Received c u ∷ []) l)

-- what it leaves
pub record Keeps (l k : Ledger) : Type 0 where
  pub users : k.users ≡ l.users
  pub gone : k.gone ≡ l.gone
  pub got : k.got ≡ l.got

placed_keeps : (t : ℕ) (c : List ℕ) (m : Message) (dead : Option Reason) (l : Ledger) → Keeps l (place_received t c m dead l)
placed_keeps t c m dead l = subst (λ (z : Ledger). Keeps l z) (sym (received_is t c m dead l)) (go (placing t c l m dead))
  where
    go : (o : Option Placing) → Keeps l (place_maybe t o l)
    go None = record { users = refl; gone = refl; got = refl }
    go (Some x) = record { users = refl; gone = refl; got = refl }

list_keeps : (t : ℕ) (c : List ℕ) (ds : List Did) (first l : Ledger) (ms : List Message) → Keeps l (place_list t c ds first ms l)
list_keeps t c ds first l [] = record { users = refl; gone = refl; got = refl }
list_keeps t c ds first l (m ∷ ms) = go (is_admitted first m) (λ x. list_keeps t c ds first x ms)
  where
    go : (z : Bool) → ((x : Ledger) → Keeps x (place_list t c ds first ms x)) → Keeps l (place_list t c ds first ms (when z (place_received t c (own_row first m) (dead_reason m.ident ds)) l))
    go false rest = rest l
    go true rest =
        let a = placed_keeps t c (own_row first m) (dead_reason m.ident ds) l in
        let b = rest (place_received t c (own_row first m) (dead_reason m.ident ds) l) in
        record { users = b.users ∙ a.users; gone = b.gone ∙ a.gone; got = b.got ∙ a.got }

pub receipt_keeps : (t : ℕ) (c : List ℕ) (ms : List Message) (ds : List Did) (l : Ledger) → Keeps l (ledgers.receive t c ms ds l)
receipt_keeps t c ms ds l = let k = list_keeps t c ds l (take_everywhere (idents_of ms) l) ms in record { users = k.users; gone = k.gone; got = k.got }

-- and tells
taken_told : (is : List Ident) (a : ℕ) (r : Plain) (l : Ledger) → IsTold a r l → IsTold a r (take_everywhere is l)
taken_told is a r l t = record {
  places = record t.places { queues = leave_queues (λ (row : Row). not (is_one_of is row)) t.places.queues };
  placed = mapped_get (λ (p : ManagerPlaces). record p { queues = leave_queues (λ (row : Row). not (is_one_of is row)) p.queues }) l.places a t.places t.placed;
  name = t.name;
  definitions = t.definitions;
  shelved = left_shelved (λ (row : Row). not (is_one_of is row)) t.places.queues t.shelved;
  users = t.users;
  used = t.used;
  connections = t.connections;
}

maybe_told : (t : ℕ) (a : ℕ) (r : Plain) (c : List ℕ) (m : Message) (dead : Option Reason) (l : Ledger) → IsTold a r l → IsTold a r (place_received t c m dead l)
maybe_told t a r c m dead l told = subst (λ (z : Ledger). IsTold a r z) (sym (received_is t c m dead l)) (go (placing t c l m dead))
  where
    elsewhere : (q : List ℕ) (x : Message) → (a == t) ≡ false → IsTold a r (ledgers.place t q x l)
    elsewhere q x e = record {
      places = told.places;
      placed = else_changed t a (ledgers.place_at q x) l.places e ∙ told.placed;
      name = told.name;
      definitions = told.definitions;
      shelved = told.shelved;
      users = told.users;
      used = told.used;
      connections = told.connections;
    }

    here : (q : List ℕ) (x : Message) → (a == t) ≡ true → IsTold a r (ledgers.place t q x l)
    here q x e = subst (λ z. IsTold a r (ledgers.place z q x l)) (eqb_yes a t e) (place_told a r r l q x told refl refl refl refl)

    go : (o : Option Placing) → IsTold a r (place_maybe t o l)
    go None = told
    go (Some x) = bool_case (a == t) (λ z. (a == t) ≡ z → IsTold a r (ledgers.place t x.queue x.message l)) (λ z e. here x.queue x.message e) (λ z e. elsewhere x.queue x.message e) refl

list_told : (t a : ℕ) (r : Plain) (c : List ℕ) (ds : List Did) (first l : Ledger) (ms : List Message) → IsTold a r l → IsTold a r (place_list t c ds first ms l)
list_told t a r c ds first l [] told = told
list_told t a r c ds first l (m ∷ ms) told = go (is_admitted first m) (λ x k. list_told t a r c ds first x ms k)
  where
    go : (z : Bool) → ((x : Ledger) → IsTold a r x → IsTold a r (place_list t c ds first ms x)) → IsTold a r (place_list t c ds first ms (when z (place_received t c (own_row first m) (dead_reason m.ident ds)) l))
    go false rest = rest l told
    go true rest = rest _ (maybe_told t a r c (own_row first m) (dead_reason m.ident ds) l told)

pub receipt_told : (t a : ℕ) (r : Plain) (c : List ℕ) (ms : List Message) (ds : List Did) (l : Ledger) → IsTold a r l → IsTold a r (ledgers.receive t c ms ds l)
receipt_told t a r c ms ds l told = list_told t a r c ds l (take_everywhere (idents_of ms) l) ms (taken_told (idents_of ms) a r l told)

-- The manager's step

abbrev received_data : List ℕ → Luw → ℕ → Plain → ReceiverData
received_data c u last p = record (receiver_or (receiver_data c p)) { unit = u; last = last }

abbrev behind_it : List ℕ → Luw → ℕ → Landed → Plain → Plain
behind_it c u last x p = apply (SetReceiver c (received_data c u last p)) (with_log (written (received_record c u last x) p.log) (apply_all x.changes p))

done_is : (c : List ℕ) (u : Luw) (last : ℕ) (x : Landed) (p : Plain) → do_part (received_part c u last x p) p ≡ behind_it c u last x p
done_is c u last x p =
    let lg : LogState = written (received_record c u last x) p.log in
    behind x.changes (SetReceiver c (received_data c u last p) ∷ []) (with_log lg p)
    ∙ ap (λ (z : Plain). apply (SetReceiver c (received_data c u last p)) z) (log_aside x.changes lg p)

-- beside rows and channels all stays
pub record IsDone (p r : Plain) : Type 0 where
  pub given : r.given ≡ p.given
  pub definitions : r.definitions ≡ p.definitions
  pub connections : r.connections ≡ p.connections
  pub numbers : r.numbers ≡ p.numbers

pub done_beside : (t : ℕ) (c : List ℕ) (u : Luw) (last : ℕ) (ms : List Message) (x : Landed) (p : Plain) → Lands t c p ms x → IsDone p (do_part (received_part c u last x p) p)
done_beside t c u last ms x p y = subst (λ (z : Plain). IsDone p z) (sym (done_is c u last x p)) (record { given = y.aside.given; definitions = y.aside.definitions; connections = y.aside.connections; numbers = y.aside.numbers })

unit_held : (o r : Option InDoubt) (b : Option Batch) → doubt_unit o ≡ doubt_unit r → held_unit o b ≡ held_unit r b
unit_held None None b e = refl
unit_held None (Some d) b e = absurd cc
unit_held (Some d) None b e = absurd cc
unit_held (Some d) (Some k) b e = e

unit_sure : (o r : Option InDoubt) → doubt_unit o ≡ doubt_unit r → is_some o ≡ is_some r
unit_sure None None e = refl
unit_sure None (Some d) e = absurd cc
unit_sure (Some d) None e = absurd cc
unit_sure (Some d) (Some k) e = refl

place_else : (t : ℕ) (ls : List Landing) (a : ℕ) (d : List ℕ) (xs : List Row) → (a == t) ≡ false → place_all t ls a d xs ≡ xs
place_else t [] a d xs e = refl
place_else t (l ∷ ls) a d xs e = ap (λ z. place_all t ls a d (if z && bytes_eq d l.queue then insert_row l.row xs else xs)) e ∙ place_else t ls a d xs e

-- The last unit of each receiver

abbrev lasts_now : Scenario → List Plain → ℕ → List ℕ → Luw
lasts_now s ps a d = last_of s ps d (slice_get ps a)

last_here : (s : Scenario) (ps qs : List Plain) (p q : Plain) (m t : ℕ) (c : List ℕ) (u : Luw) (hard : ReceiverData) → IsNext t p q ps qs → t ≢ m → IsCabled s ps m t c
    → ((d : List ℕ) → receiver_in d q.channels.receivers ≡ (if bytes_eq d c then Some hard else receiver_in d p.channels.receivers)) → hard.unit ≡ u
    → last_of s qs c (slice_get qs m) ≡ u
last_here s ps qs p q m t c u hard n apart k sets is =
    let out : (m == t) ≡ false = is_false (m == t) (λ e. apart (sym (eqb_yes m t e))) in
    ap (last_of s qs c) (n.others m out ∙ k.at)
    ∙ ap (last_unit qs c) k.from
    ∙ ap (λ z. last_unit_at c (slice_get qs z)) k.to
    ∙ ap (last_unit_at c) n.to
    ∙ ap last_unit_of (sets c)
    ∙ ap (λ z. last_unit_of (if z then Some hard else receiver_in c p.channels.receivers)) (name_self c)
    ∙ is

last_else : (s : Scenario) (ps qs : List Plain) (p q : Plain) (m t : ℕ) (c : List ℕ) (hard : ReceiverData) → IsNext t p q ps qs → IsCabled s ps m t c → q.given ≡ p.given
    → ((d : List ℕ) → receiver_in d q.channels.receivers ≡ (if bytes_eq d c then Some hard else receiver_in d p.channels.receivers))
    → (a : ℕ) (d : List ℕ) → is_here m c a d ≡ false → last_of s qs d (slice_get qs a) ≡ last_of s ps d (slice_get ps a)
last_else s ps qs p q m t c hard n k given sets a d out = bool_case (a == t) (λ z. (a == t) ≡ z → last_of s qs d (slice_get qs a) ≡ last_of s ps d (slice_get ps a))
    (λ z e. let is : a ≡ t = eqb_yes a t e in
    ap (last_of s qs d) (ap (slice_get qs) is ∙ n.to) ∙ ap (λ (x : Given). last_unit qs d (cable_from x.number d s.cables)) given
    ∙ by_cable p (ap (slice_get ps) is ∙ n.at) (cable_from p.given.number d s.cables) refl ∙ sym (ap (last_of s ps d) (ap (slice_get ps) is ∙ n.at)))
    (λ z e. ap (last_of s qs d) (n.others a e) ∙ of (slice_get ps a) refl) refl
  where
    at_receiver : (x : Plain) (y : CableLine) → slice_get ps a ≡ Some x → cable_from x.given.number d s.cables ≡ Some y → y.receiver ≡ t → last_unit_of (receiver_in d q.channels.receivers) ≡ last_unit_of (receiver_in d p.channels.receivers)
    at_receiver x y at from to = ap last_unit_of (sets d) ∙ bool_case (bytes_eq d c) (λ z. bytes_eq d c ≡ z → last_unit_of (if z then Some hard else receiver_in d p.channels.receivers) ≡ last_unit_of (receiver_in d p.channels.receivers))
        (λ z e.
        let here : a ≡ m = k.alone a x y at (ap (λ o. cable_from x.given.number o s.cables) (sym (name_yes d c e)) ∙ from) to in
        absurd (true_false (sym ((λ i. (here i == m) && e i) ∙ ap (λ b. b && true) (eqb_self m)) ∙ out)))
        (λ z e. refl) refl

    by_cable : (x : Plain) → slice_get ps a ≡ Some x → (o : Option CableLine) → cable_from x.given.number d s.cables ≡ o → last_unit qs d o ≡ last_unit ps d o
    by_cable x at None from = refl
    by_cable x at (Some y) from = bool_case (y.receiver == t) (λ z. (y.receiver == t) ≡ z → last_unit_at d (slice_get qs y.receiver) ≡ last_unit_at d (slice_get ps y.receiver))
        (λ z e. let to : y.receiver ≡ t = eqb_yes y.receiver t e in
        ap (last_unit_at d) (ap (slice_get qs) to ∙ n.to) ∙ at_receiver x y at from to ∙ sym (ap (last_unit_at d) (ap (slice_get ps) to ∙ n.at)))
        (λ z e. ap (last_unit_at d) (n.others y.receiver e)) refl

    of : (o : Option Plain) → slice_get ps a ≡ o → last_of s qs d o ≡ last_of s ps d o
    of None at = refl
    of (Some x) at = by_cable x at (cable_from x.given.number d s.cables) refl

lasts_after : (s : Scenario) (ps qs : List Plain) (p q : Plain) (m t : ℕ) (c : List ℕ) (u : Luw) (hard : ReceiverData) → IsNext t p q ps qs → t ≢ m → IsCabled s ps m t c → q.given ≡ p.given
    → ((d : List ℕ) → receiver_in d q.channels.receivers ≡ (if bytes_eq d c then Some hard else receiver_in d p.channels.receivers)) → hard.unit ≡ u
    → (a : ℕ) (d : List ℕ) → last_of s qs d (slice_get qs a) ≡ put_at (lasts_now s ps) m c u a d
lasts_after s ps qs p q m t c u hard n apart k given sets is a d = bool_case (is_here m c a d) (λ z. is_here m c a d ≡ z → last_of s qs d (slice_get qs a) ≡ (if z then u else lasts_now s ps a d))
    (λ z e. let h = here_yes m c a d e in (λ i. last_of s qs (h.1 i) (slice_get qs (h.0 i))) ∙ last_here s ps qs p q m t c u hard n apart k sets is)
    (λ z e. last_else s ps qs p q m t c hard n k given sets a d e) refl

-- The network

received_world : (s : Scenario) (given : Ident → Bool) (ps qs : List Plain) (p : Plain) (m t : ℕ) (c : List ℕ) (u : Luw) (last : ℕ) (ms : List Message) (x : Landed) (y : Lands t c p ms x) → IsNext t p (behind_it c u last x p) ps qs → t ≢ m → IsCabled s ps m t c
    → world_of s given qs ≡ kinds.receive (world_of s given ps) m c u t (idents_of ms) y.lands
received_world s given ps qs p m t c u last ms x y n apart k = λ i. record {
  rows = λ a d. rows a d i;
  units = λ a e. units a e i;
  given = given;
  holds = λ a d. holds a d i;
  doubt = λ a d. doubt a d i;
  last = λ a d. lasts_after s ps qs p q m t c u (received_data c u last p) n apart k y.aside.given sets refl a d i;
}
  where
    q : Plain
    q = behind_it c u last x p

    sets : (d : List ℕ) → receiver_in d q.channels.receivers ≡ (if bytes_eq d c then Some (received_data c u last p) else receiver_in d p.channels.receivers)
    sets d = receiver_set d c (received_data c u last p) (apply_all x.changes p).channels.receivers ∙ (λ i. if bytes_eq d c then Some (received_data c u last p) else receiver_in d (y.aside.receivers i))

    rows : (a : ℕ) (d : List ℕ) → rows_of d (slice_get qs a) ≡ place_all t y.lands a d (keep (λ h. not ((a == t) && among (idents_of ms) h.message.ident)) (rows_of d (slice_get ps a)))
    rows a d = bool_case (a == t) (λ z. (a == t) ≡ z → rows_of d (slice_get qs a) ≡ place_all t y.lands a d (keep (λ h. not (z && among (idents_of ms) h.message.ident)) (rows_of d (slice_get ps a))))
        (λ z e. let is : a ≡ t = eqb_yes a t e in
        ap (rows_of d) (ap (slice_get qs) is ∙ n.to) ∙ y.rows d
        ∙ sym (λ i. place_all t y.lands (is i) d (keep (λ h. not (among (idents_of ms) h.message.ident)) (rows_of d ((ap (slice_get ps) is ∙ n.at) i)))))
        (λ z e. ap (rows_of d) (n.others a e) ∙ sym (place_else t y.lands a d _ e ∙ keep_all (λ h. true) (rows_of d (slice_get ps a)) (λ h n. refl))) refl

    units : (a e : ℕ) → units_of e (slice_get qs a) ≡ units_of e (slice_get ps a)
    units a e = bool_case (a == t) (λ z. (a == t) ≡ z → units_of e (slice_get qs a) ≡ units_of e (slice_get ps a))
        (λ z f. let is : a ≡ t = eqb_yes a t f in ap (units_of e) (ap (slice_get qs) is ∙ n.to) ∙ (λ i. unit_of (connection_at e (y.aside.connections i))) ∙ sym (ap (units_of e) (ap (slice_get ps) is ∙ n.at)))
        (λ z f. ap (units_of e) (n.others a f)) refl

    holds : (a : ℕ) (d : List ℕ) → holds_of d (slice_get qs a) ≡ holds_of d (slice_get ps a)
    holds a d = bool_case (a == t) (λ z. (a == t) ≡ z → holds_of d (slice_get qs a) ≡ holds_of d (slice_get ps a))
        (λ z f. let is : a ≡ t = eqb_yes a t f in
        ap (holds_of d) (ap (slice_get qs) is ∙ n.to)
        ∙ ap (λ bs. held_unit (in_doubt_of (sender_data d (apply_all x.changes p))) (batch_of d bs)) y.aside.batches
        ∙ unit_held (in_doubt_of (sender_data d (apply_all x.changes p))) (in_doubt_of (sender_data d p)) (batch_of d p.channels.batches) (y.aside.doubts d)
        ∙ sym (ap (holds_of d) (ap (slice_get ps) is ∙ n.at)))
        (λ z f. ap (holds_of d) (n.others a f)) refl

    doubt : (a : ℕ) (d : List ℕ) → doubt_of d (slice_get qs a) ≡ doubt_of d (slice_get ps a)
    doubt a d = bool_case (a == t) (λ z. (a == t) ≡ z → doubt_of d (slice_get qs a) ≡ doubt_of d (slice_get ps a))
        (λ z f. let is : a ≡ t = eqb_yes a t f in
        ap (doubt_of d) (ap (slice_get qs) is ∙ n.to)
        ∙ unit_sure (in_doubt_of (sender_data d (apply_all x.changes p))) (in_doubt_of (sender_data d p)) (y.aside.doubts d)
        ∙ sym (ap (doubt_of d) (ap (slice_get ps) is ∙ n.at)))
        (λ z f. ap (doubt_of d) (n.others a f)) refl

received_book : (t : ℕ) (c : List ℕ) (ms : List Message) (ds : List Did) (p : Plain) (l : Ledger) → IsTold t p l
    → book_of (ledgers.receive t c ms ds l) ≡ book_receive (book_of l) t (idents_of ms) (landings t c ds l (take_everywhere (idents_of ms) l) ms)
received_book t c ms ds p l told =
    let k = receipt_keeps t c ms ds l in
    λ i. record {
      rows = λ a d. receipt_rows t c ms ds l told.places a d told.placed i;
      units = λ a e. unit_of (connection_at e (ledgers.users_or (slice_get (k.users i) a)).connections);
      gone = k.gone i;
      got = k.got i;
    }

-- what was placed has the unit's idents, in its order
landing_idents_told : (ks : List Landing) → map (λ (l : Landing). l.row.message.ident) (map landing_told ks) ≡ map (λ (l : Landing). l.row.message.ident) ks
landing_idents_told [] = refl
landing_idents_told (k ∷ ks) = ap (λ is. k.row.message.ident ∷ is) (landing_idents_told ks)

landing_idents_marked : (ks : List Landing) → map (λ (x : Mark). x.ident) (map landing_mark ks) ≡ map (λ (l : Landing). l.row.message.ident) ks
landing_idents_marked [] = refl
landing_idents_marked (k ∷ ks) = ap (λ is. k.row.message.ident ∷ is) (landing_idents_marked ks)

idents_marked : (ms : List Message) → map (λ (x : Mark). x.ident) (map mark_of ms) ≡ idents_of ms
idents_marked [] = refl
idents_marked (m ∷ ms) = ap (λ is. m.ident ∷ is) (idents_marked ms)

idents_placed : (ks ls : List Landing) (ms : List Message) → map landing_told ks ≡ map landing_told ls → map landing_mark ls ≡ map mark_of ms → map (λ (l : Landing). l.row.message.ident) ks ≡ idents_of ms
idents_placed ks ls ms told marks =
    sym (landing_idents_told ks) ∙ ap (map (λ (l : Landing). l.row.message.ident)) told ∙ landing_idents_told ls ∙ sym (landing_idents_marked ls)
    ∙ ap (map (λ (x : Mark). x.ident)) marks ∙ idents_marked ms

-- All of it

abbrev unborn_at : Ident → Plain → Bool
unborn_at i z = unborn_by z.given z.numbers i

pub awaited_at : (s : Scenario) (given : Ident → Bool) (ps : List Plain) (p : Plain) (l : Ledger) (g : Ghost) (m t : ℕ) (c : List ℕ) (u : Luw) (ms : List Message) → IsReceipt s given ps p l g m t c u ms → IsAwaitedAt s given ps p l g m t c u ms
awaited_at s given ps p l g m t c u ms r = record { commits = r.commits; sent = r.sent; cabled = r.cabled; fresh = r.fresh; told = r.told; timed = r.timed; shelved = r.shelved }

-- the unit's messages land at the manager, as it is now
pub lands_now : (s : Scenario) (given : Ident → Bool) (ps : List Plain) (p : Plain) (l : Ledger) (g : Ghost) (m t : ℕ) (c : List ℕ) (u : Luw) (ms : List Message) (x : Landed) → landed c ms p ≡ Ok x → slice_get ps t ≡ Some p
    → IsReceipt s given ps p l g m t c u ms → Inv (world_of s given ps) g (book_of l) → Lands t c p ms x
lands_now s given ps p l g m t c u ms x e at r h =
    batch_lands t c ms p x e r.sound.facts r.sound.named (λ d. subst (λ (o : Option Plain). LanesRise (rows_of d o)) at (h.sorted t d))
    (subst AreDistinct (sym (ap tag_idents r.sent) ∙ idents_tagged ms) r.commits.once) (comes_in s given ps p l g m t c u ms at r h)

-- or as it was when its turn was stopped, at what is left of it
pub lands_then : (s : Scenario) (given : Ident → Bool) (ps : List Plain) (b p : Plain) (l : Ledger) (g : Ghost) (m t : ℕ) (c : List ℕ) (u : Luw) (ms : List Message) (x : Landed) → landed c ms b ≡ Ok x → IsSound b → IsShadow b p → ((y : Message) → Mem y ms → Comes b y)
    → slice_get ps t ≡ Some p → IsAwaitedAt s given ps p l g m t c u ms → Inv (world_of s given ps) g (book_of l) → Lands t c p ms x
lands_then s given ps b p l g m t c u ms x e sound shadow comes at r h =
    batch_lands_by t c ms b p x e sound.facts sound.named shadow (λ d. subst (λ (o : Option Plain). LanesRise (rows_of d o)) at (h.sorted t d))
    (subst AreDistinct (sym (ap tag_idents r.sent) ∙ idents_tagged ms) r.commits.once) comes

pub receives_by : (s : Scenario) (given : Ident → Bool) (ps qs : List Plain) (p : Plain) (l : Ledger) (g : Ghost) (m t : ℕ) (c : List ℕ) (u : Luw) (last : ℕ) (ms : List Message) (x : Landed) (reply : Reply) → Lands t c p ms x
    → IsNext t p (do_part (received_part c u last x p) p) ps qs → IsAwaitedAt s given ps p l g m t c u ms → Inv (world_of s given ps) g (book_of l)
    → Receipt s given qs (do_part (received_part c u last x p) p) l (post_call t calls.Turn reply ms (received_part c u last x p).delta (take_all_gone t (received_part c u last x p).delta l)) g m t c u
receives_by s given ps qs p l g m t c u last ms x reply y n r h = record {
  lands = y.lands;
  inv = subst (λ (k : Ledger). Inv (world_of s given qs) (ghost_receive g m c u t (tag_idents (g.sent m c u)) y.lands) (book_of k)) (sym posted) inv;
  fresh = λ i f. r.fresh i (sym (ap (unborn_at i) (done_is c u last x p) ∙ (λ j. unborn_by (y.aside.given j) (y.aside.numbers j) i)) ∙ f);
  told = subst (λ (k : Ledger). IsTold t done k) (sym posted) (subst (λ (z : Plain). IsTold t z k) (sym (done_is c u last x p)) told_q);
  timed = record { users = r.timed.users; used = ap (λ us. slice_get us t) users ∙ r.timed.used; moment = r.timed.moment ∙ sym (ap (λ (z : Plain). z.moment) (done_is c u last x p) ∙ y.aside.moment) };
  others = λ a z f told. subst (λ (k : Ledger). IsTold a z k) (sym posted) (receipt_told t a z c ms ds l told);
  users = users;
  placings = landings t c ds l first ms;
  named = idents_placed (landings t c ds l first ms) y.lands ms ks_told y.marks ∙ sym ids;
  rows = λ a d. ap (ledgers.ledger_rows a d) posted ∙ receipt_rows t c ms ds l r.told.places a d r.told.placed
      ∙ ap (λ is. place_all t (landings t c ds l first ms) a d (keep (λ (x : Row). not (among is x.message.ident)) (ledgers.ledger_rows a d l))) (sym ids);
}
  where
    done : Plain
    done = do_part (received_part c u last x p) p

    q : Plain
    q = behind_it c u last x p

    ds : List Did
    ds = x.delta ++ did.Received c u ∷ []

    k : Ledger
    k = ledgers.receive t c ms ds l

    w : World
    w = world_of s given ps

    next : IsNext t p q ps qs
    next = record { at = n.at; to = n.to ∙ ap (λ (z : Plain). Some z) (done_is c u last x p); others = n.others }

    ids : tag_idents (g.sent m c u) ≡ idents_of ms
    ids = sym (ap tag_idents r.sent) ∙ idents_tagged ms

    posted : post_call t calls.Turn reply ms ds (take_all_gone t ds l) ≡ k
    posted = posts t c u reply ms x.delta l y.still

    users : (post_call t calls.Turn reply ms ds (take_all_gone t ds l)).users ≡ l.users
    users = ap (λ (z : Ledger). z.users) posted ∙ (receipt_keeps t c ms ds l).users

    first : Ledger
    first = take_everywhere (idents_of ms) l

    timed_first : IsTimed t p first
    timed_first = record { users = r.timed.users; used = r.timed.used; moment = r.timed.moment }

    ks_told : map landing_told (landings t c ds l first ms) ≡ map landing_told y.lands
    ks_told = y.told ds l first (λ z f. dead_behind c u z.ident x.delta) (taken_told (idents_of ms) t p l r.told) timed_first (own_in s given ps p l g m t c u ms r h)

    kind : Inv (kinds.receive w m c u t (tag_idents (g.sent m c u)) y.lands) (ghost_receive g m c u t (tag_idents (g.sent m c u)) y.lands) (book_receive (book_of l) t (tag_idents (g.sent m c u)) (landings t c ds l first ms))
    kind = receiving.receives w g (book_of l) m c u t y.lands (landings t c ds l first ms) h r.commits (y.marks ∙ marks_tagged ms ∙ ap (map tag_mark) r.sent) ks_told y.free

    world : kinds.receive w m c u t (tag_idents (g.sent m c u)) y.lands ≡ world_of s given qs
    world = ap (λ is. kinds.receive w m c u t is y.lands) ids ∙ sym (received_world s given ps qs p m t c u last ms x y next r.commits.apart r.cabled)

    book : book_receive (book_of l) t (tag_idents (g.sent m c u)) (landings t c ds l first ms) ≡ book_of k
    book = ap (λ is. book_receive (book_of l) t is (landings t c ds l first ms)) ids ∙ sym (received_book t c ms ds p l r.told)

    inv : Inv (world_of s given qs) (ghost_receive g m c u t (tag_idents (g.sent m c u)) y.lands) (book_of k)
    inv = subst (λ (b : Book). Inv (world_of s given qs) (ghost_receive g m c u t (tag_idents (g.sent m c u)) y.lands) b) book
        (subst (λ (v : World). Inv v (ghost_receive g m c u t (tag_idents (g.sent m c u)) y.lands) (book_receive (book_of l) t (tag_idents (g.sent m c u)) (landings t c ds l first ms))) world kind)

    told_q : IsTold t q k
    told_q =
        let z = receipt_told t t p c ms ds l r.told in
        record {
          places = z.places;
          placed = z.placed;
          name = z.name ∙ ap (λ (o : Given). o.name) (sym y.aside.given);
          definitions = z.definitions ∙ sym y.aside.definitions;
          shelved = z.shelved;
          users = z.users;
          used = z.used;
          connections = z.connections ∙ ap connections_told (sym y.aside.connections);
        }

pub found_receives : (s : Scenario) (given : Ident → Bool) (ps qs : List Plain) (b p : Plain) (l : Ledger) (g : Ghost) (m t : ℕ) (c : List ℕ) (u : Luw) (last : ℕ) (ms : List Message) (x : Landed) (reply : Reply) → landed c ms b ≡ Ok x → IsSound b → IsShadow b p → ((y : Message) → Mem y ms → Comes b y)
    → IsNext t p (do_part (received_part c u last x p) p) ps qs → IsAwaitedAt s given ps p l g m t c u ms → Inv (world_of s given ps) g (book_of l)
    → Receipt s given qs (do_part (received_part c u last x p) p) l (post_call t calls.Turn reply ms (received_part c u last x p).delta (take_all_gone t (received_part c u last x p).delta l)) g m t c u
found_receives s given ps qs b p l g m t c u last ms x reply e sound shadow comes n r h = receives_by s given ps qs p l g m t c u last ms x reply (lands_then s given ps b p l g m t c u ms x e sound shadow comes n.at r h) n r h

pub receives : (s : Scenario) (given : Ident → Bool) (ps qs : List Plain) (p : Plain) (l : Ledger) (g : Ghost) (m t : ℕ) (c : List ℕ) (u : Luw) (last : ℕ) (ms : List Message) (x : Landed) (reply : Reply) → landed c ms p ≡ Ok x
    → IsNext t p (do_part (received_part c u last x p) p) ps qs → IsReceipt s given ps p l g m t c u ms → Inv (world_of s given ps) g (book_of l)
    → (taken_of (landed c ms p) ≡ ms)
    × Receipt s given qs (do_part (received_part c u last x p) p) l (post_call t calls.Turn reply ms (received_part c u last x p).delta (take_all_gone t (received_part c u last x p).delta l)) g m t c u
receives s given ps qs p l g m t c u last ms x reply e n r h =
    let y : Lands t c p ms x = lands_now s given ps p l g m t c u ms x e n.at r h in
    (ap taken_of e ∙ y.taken, receives_by s given ps qs p l g m t c u last ms x reply y n (awaited_at s given ps p l g m t c u ms r) h)

-- What a network shows of batches and units behind it
pub record SeenAfter (w v : World) (m : ℕ) (c : List ℕ) (u : Luw) : Type 0 where
  pub holds : (a : ℕ) (d : List ℕ) → v.holds a d ≡ w.holds a d
  pub doubt : (a : ℕ) (d : List ℕ) → v.doubt a d ≡ w.doubt a d
  pub last : (a : ℕ) (d : List ℕ) → v.last a d ≡ put_at w.last m c u a d

pub seen_by : (s : Scenario) (given : Ident → Bool) (ps qs : List Plain) (p : Plain) (l : Ledger) (g : Ghost) (m t : ℕ) (c : List ℕ) (u : Luw) (last : ℕ) (ms : List Message) (x : Landed) → Lands t c p ms x
    → IsNext t p (do_part (received_part c u last x p) p) ps qs → IsAwaitedAt s given ps p l g m t c u ms → SeenAfter (world_of s given ps) (world_of s given qs) m c u
seen_by s given ps qs p l g m t c u last ms x y n r =
    let next : IsNext t p (behind_it c u last x p) ps qs = record { at = n.at; to = n.to ∙ ap (λ (z : Plain). Some z) (done_is c u last x p); others = n.others } in
    let world = received_world s given ps qs p m t c u last ms x y next r.commits.apart r.cabled in
    record { holds = λ a d. ap (λ (v : World). v.holds a d) world; doubt = λ a d. ap (λ (v : World). v.doubt a d) world; last = λ a d. ap (λ (v : World). v.last a d) world }

pub seen_after : (s : Scenario) (given : Ident → Bool) (ps qs : List Plain) (p : Plain) (l : Ledger) (g : Ghost) (m t : ℕ) (c : List ℕ) (u : Luw) (last : ℕ) (ms : List Message) (x : Landed) → landed c ms p ≡ Ok x
    → IsNext t p (do_part (received_part c u last x p) p) ps qs → IsReceipt s given ps p l g m t c u ms → Inv (world_of s given ps) g (book_of l)
    → SeenAfter (world_of s given ps) (world_of s given qs) m c u
seen_after s given ps qs p l g m t c u last ms x e n r h =
    seen_by s given ps qs p l g m t c u last ms x (lands_now s given ps p l g m t c u ms x e n.at r h) n (awaited_at s given ps p l g m t c u ms r)
