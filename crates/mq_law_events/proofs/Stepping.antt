-- A manager of a network, and a ledger, that follow: the facts of the whole are kept.
use Rattle.std.proofs.Common.{ℕ, ◌≡◌, Bool, false, List, refl, ap, sym, subst, ◌∙◌}
use Rattle.std.specs.Prelude.{Option, Some, None, ◌==◌, if◌then◌else◌, slice_get, is_some}
use Rattle.mq_message.specs.declared.message.Ident.{Ident}
use Rattle.mq_queue.specs.declared.row.Row.{Row}
use Rattle.mq_law_seen.specs.from_history.{CableLine, ManagerPlaces, Scenario}
use Rattle.mq_calls.specs.State.{Plain}
use Rattle.mq_calls.specs.Reads.{stored, sender_in, receiver_in, connection_at, in_doubt_of, batch_of}
use Rattle.mq_law_seen.specs.from_spec_network.Ledger.{Ledger, users_or, users_at, places_or, rows_in, ledger_rows, unit_of}
use Rattle.mq_law_seen.specs.from_spec_network.Standing.{last_unit, last_unit_at, last_unit_of, cable_from}
use Rattle.mq_law_seen.specs.from_law_rows.World.{World, Book, Ghost, Inv, items_told}
use Rattle.mq_law_seen.proofs.from_law_rows.Lists.{bool_case, eqb_yes}
use Rattle.mq_law_seen.specs.Seen.{rows_of, units_of, held_unit, holds_of, doubt_of, last_of, world_of, book_of}
use Rattle.mq_law_events.specs.Local.{local, page, with_owner, Moved, Leads, side_of, sheet_of}
use Rattle.mq_law_events.specs.Tied.{IsTold, IsSame, IsElse, IsNext, Follow}
use Rattle.mq_law_events.proofs.Telling.{connection_at_told, unit_told}

-- at one manager, or elsewhere
by_manager : {A : Type 0} (m a : ℕ) (f : ℕ → A) (x y : A) → (a ≡ m → f a ≡ x) → ((a == m) ≡ false → f a ≡ y) → f a ≡ (if a == m then x else y)
by_manager m a f x y here there = bool_case (a == m) (λ t. (a == m) ≡ t → f a ≡ (if t then x else y)) (λ e z. here (eqb_yes a m z)) (λ e z. there z) refl

-- channels that are the same hold the same
held_same : (p q : Plain) (c : List ℕ) → IsSame p q → holds_of c (Some q) ≡ holds_of c (Some p)
held_same p q c e = λ i. held_unit (in_doubt_of (sender_in c (e.senders i))) (batch_of c (e.batches i))

doubt_same : (p q : Plain) (c : List ℕ) → IsSame p q → doubt_of c (Some q) ≡ doubt_of c (Some p)
doubt_same p q c e = λ i. is_some (in_doubt_of (sender_in c (e.senders i)))

-- each manager's receivers are as before
last_at_same : (c : List ℕ) (p q : Plain) (o r : Option Plain) → IsSame p q → o ≡ Some p → r ≡ Some q → last_unit_at c r ≡ last_unit_at c o
last_at_same c p q o r e x y = ap (last_unit_at c) y ∙ (λ i. last_unit_of (receiver_in c (e.receivers i))) ∙ ap (last_unit_at c) (sym x)

lasts_same : (m : ℕ) (p q : Plain) (ps qs : List Plain) (c : List ℕ) (x : Option CableLine) → IsNext m p q ps qs → IsSame p q → last_unit qs c x ≡ last_unit ps c x
lasts_same m p q ps qs c None n e = refl
lasts_same m p q ps qs c (Some x) n e = bool_case (x.receiver == m) (λ t. (x.receiver == m) ≡ t → last_unit_at c (slice_get qs x.receiver) ≡ last_unit_at c (slice_get ps x.receiver))
    (λ z w. let is : x.receiver ≡ m = eqb_yes x.receiver m w in last_at_same c p q (slice_get ps x.receiver) (slice_get qs x.receiver) e (ap (slice_get ps) is ∙ n.at) (ap (slice_get qs) is ∙ n.to))
    (λ z w. ap (last_unit_at c) (n.others x.receiver w)) refl

lasts_all : (s : Scenario) (m : ℕ) (p q : Plain) (ps qs : List Plain) (c : List ℕ) (a : ℕ) → IsNext m p q ps qs → IsSame p q → last_of s qs c (slice_get qs a) ≡ last_of s ps c (slice_get ps a)
lasts_all s m p q ps qs c a n e = bool_case (a == m) (λ t. (a == m) ≡ t → last_of s qs c (slice_get qs a) ≡ last_of s ps c (slice_get ps a))
    (λ z w. let is : a ≡ m = eqb_yes a m w in
    ap (last_of s qs c) (ap (slice_get qs) is ∙ n.to)
    ∙ ap (λ g. last_unit qs c (cable_from g.number c s.cables)) e.given
    ∙ lasts_same m p q ps qs c (cable_from p.given.number c s.cables) n e
    ∙ ap (last_of s ps c) (sym (ap (slice_get ps) is ∙ n.at)))
    (λ z w. ap (last_of s qs c) (n.others a w) ∙ elsewhere (slice_get ps a)) refl
  where
    elsewhere : (o : Option Plain) → last_of s qs c o ≡ last_of s ps c o
    elsewhere None = refl
    elsewhere (Some x) = lasts_same m p q ps qs c (cable_from x.given.number c s.cables) n e

world_next : (s : Scenario) (given now : Ident → Bool) (m : ℕ) (p q : Plain) (ps qs : List Plain) → IsNext m p q ps qs → IsSame p q → world_of s now qs ≡ local (world_of s given ps) m (side_of q now)
world_next s given now m p q ps qs n e =
    let rows : (a : ℕ) (d : List ℕ) → rows_of d (slice_get qs a) ≡ (if a == m then (stored d q).rows else rows_of d (slice_get ps a)) =
    λ a d. by_manager m a (λ a. rows_of d (slice_get qs a)) _ _ (λ is. ap (rows_of d) (ap (slice_get qs) is ∙ n.to)) (λ z. ap (rows_of d) (n.others a z)) in
    let units : (a k : ℕ) → units_of k (slice_get qs a) ≡ (if a == m then unit_of (connection_at k q.connections) else units_of k (slice_get ps a)) =
    λ a k. by_manager m a (λ a. units_of k (slice_get qs a)) _ _ (λ is. ap (units_of k) (ap (slice_get qs) is ∙ n.to)) (λ z. ap (units_of k) (n.others a z)) in
    let holds : (a : ℕ) (c : List ℕ) → holds_of c (slice_get qs a) ≡ holds_of c (slice_get ps a) = λ a c.
    at_or a (λ a. holds_of c (slice_get qs a)) (λ a. holds_of c (slice_get ps a)) (ap (holds_of c) n.to ∙ held_same p q c e ∙ ap (holds_of c) (sym n.at)) (λ z. ap (holds_of c) (n.others a z)) in
    let doubt : (a : ℕ) (c : List ℕ) → doubt_of c (slice_get qs a) ≡ doubt_of c (slice_get ps a) = λ a c.
    at_or a (λ a. doubt_of c (slice_get qs a)) (λ a. doubt_of c (slice_get ps a)) (ap (doubt_of c) n.to ∙ doubt_same p q c e ∙ ap (doubt_of c) (sym n.at)) (λ z. ap (doubt_of c) (n.others a z)) in
    λ i. record { rows = λ a d. rows a d i; units = λ a k. units a k i; given = now; holds = λ a c. holds a c i; doubt = λ a c. doubt a c i; last = λ a c. lasts_all s m p q ps qs c a n e i }
  where
    at_or : {A : Type 0} (a : ℕ) (f g : ℕ → A) → f m ≡ g m → ((a == m) ≡ false → f a ≡ g a) → f a ≡ g a
    at_or a f g here there = bool_case (a == m) (λ t. (a == m) ≡ t → f a ≡ g a) (λ z w. ap f (eqb_yes a m w) ∙ here ∙ sym (ap g (eqb_yes a m w))) (λ z w. there w) refl

same_plain : (p : Plain) → IsSame p p
same_plain p = record { given = refl; senders = refl; receivers = refl; batches = refl }

book_next : (m : ℕ) (given : Ident → Bool) (q : Plain) (l k : Ledger) → IsTold m q k → IsElse m l k → book_of k ≡ page (book_of l) m (side_of q given) (sheet_of m k)
book_next m given q l k t e =
    let rows : (a : ℕ) (d : List ℕ) → ledger_rows a d k ≡ (if a == m then ledger_rows m d k else ledger_rows a d l) =
    λ a d. by_manager m a (λ a. ledger_rows a d k) _ _ (λ is. ap (λ z. ledger_rows z d k) is) (λ z. ap (λ o. rows_at d o) (e.places a z)) in
    let units : (a c : ℕ) → unit_of (connection_at c (users_at a k).connections) ≡ (if a == m then items_told (unit_of (connection_at c q.connections)) else unit_of (connection_at c (users_at a l).connections)) =
    λ a c. by_manager m a (λ a. unit_of (connection_at c (users_at a k).connections)) _ _
    (λ is. ap (λ o. unit_of (connection_at c (users_or o).connections)) (ap (slice_get k.users) is ∙ t.used) ∙ ap (λ cs. unit_of (connection_at c cs)) t.connections ∙ ap unit_of (connection_at_told c q.connections) ∙ unit_told (connection_at c q.connections))
    (λ z. ap (λ o. unit_of (connection_at c (users_or o).connections)) (e.users a z)) in
    λ i. record { rows = λ a d. rows a d i; units = λ a c. units a c i; gone = k.gone; got = k.got }
  where
    rows_at : List ℕ → Option ManagerPlaces → List Row
    rows_at d o = rows_in d (places_or o).queues

-- The whole has the facts after it.
pub moves_on : (s : Scenario) (given now : Ident → Bool) (m : ℕ) (p q : Plain) (ps qs : List Plain) (l k : Ledger) (g : Ghost) → IsNext m p q ps qs → IsTold m p l → Leads m (side_of p given) (sheet_of m l) (side_of q now) (sheet_of m k)
    → IsSame p q → IsTold m q k → IsElse m l k → Inv (world_of s given ps) g (book_of l) → Moved g (world_of s now qs) (book_of k)
moves_on s given now m p q ps qs l k g n t leads same told other h =
    let w : World = world_of s given ps in
    let b : Book = book_of l in
    let first : IsNext m p p ps ps = record { at = n.at; to = n.at; others = λ a z. refl } in
    let none : IsElse m l l = record { places = λ a z. refl; users = λ a z. refl } in
    let start : Inv (local w m (side_of p given)) g (page b m (side_of p given) (sheet_of m l)) =
    subst (λ (v : World). Inv v g (page b m (side_of p given) (sheet_of m l))) (world_next s given given m p p ps ps first (same_plain p))
    (subst (λ (c : Book). Inv w g c) (book_next m given p l l t none) h) in
    let r = leads w g b start in
    record {
      owner = r.owner;
      inv = subst (λ (v : World). Inv v (with_owner g r.owner) (book_of k)) (sym (world_next s given now m p q ps qs n same))
          (subst (λ (c : Book). Inv (local w m (side_of q now)) (with_owner g r.owner) c) (sym (book_next m now q l k told other)) r.inv);
    }

pub follows_on : (s : Scenario) (given : Ident → Bool) (m : ℕ) (p q : Plain) (ps qs : List Plain) (l k : Ledger) (g : Ghost) → IsNext m p q ps qs → IsTold m p l → (f : Follow m given p l q k)
    → Inv (world_of s given ps) g (book_of l) → Moved g (world_of s f.now qs) (book_of k)
follows_on s given m p q ps qs l k g n t f h = moves_on s given f.now m p q ps qs l k g n t f.leads f.same f.told f.other h
