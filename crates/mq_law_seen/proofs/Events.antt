-- An event's changes are the kinds' changes: a put outside a unit, on the definitions' own lists.
use Rattle.std.proofs.Common.{ℕ, ◌≡◌, ◌+◌, Bool, true, false, List, ◌∷◌, refl, ap, sym, subst, ◌∙◌}
use Rattle.std.specs.Prelude.{Option, Some, None, ◌==◌, if◌then◌else◌, ◌&&◌, ◌||◌, slice_get, is_some}
use Rattle.std.specs.Str.{bytes_eq}
use Rattle.mq_message.specs.declared.message.Ident.{Ident}
use Rattle.mq_message.specs.declared.message.Message.{Message}
use Rattle.mq_queue.specs.declared.row.Row.{Row}
use Rattle.mq_queue.specs.Rows.{same_ident, insert_row}
use Rattle.mq_objects.specs.Names.{local_of}
use Rattle.mq_law_rows.specs.from_history.{CableLine, ManagerPlaces, Scenario}
use Rattle.mq_calls.specs.State.{Plain, Queue}
use Rattle.mq_calls.specs.State.Change.{Place as Places}
use Rattle.mq_calls.specs.Reads.{stored, queue_in, sender_in, receiver_in, connection_at, in_doubt_of, batch_of}
use Rattle.mq_calls.specs.Changes.{lane_of, new_row, apply}
use Rattle.mq_law_rows.specs.from_spec_network.Ledger as ledgers
use Rattle.mq_law_rows.specs.from_spec_network.Ledger.{Ledger, nobody, places_or, places_at, change_at, put_on, put_in, leave_queues, is_one_of, take_from, take_everywhere, lose, rows_in, ledger_rows}
use Rattle.mq_law_rows.specs.from_spec_network.Standing.{row_told, last_unit, cable_from, last_unit_of}
use Rattle.mq_objects.specs.declared.object.Definitions.{Definitions}
use Rattle.mq_law_rows.specs.from_spec_network.Ledger.{unit_of}
use Rattle.mq_law_rows.specs.Families.{put_at}
use Rattle.mq_law_rows.specs.World.{World, Book}
use Rattle.mq_law_seen.specs.Seen.{rows_of, held_unit, holds_of, doubt_of, last_of, world_of, book_of}
use Rattle.mq_law_rows.proofs.Lists.{bool_case, eqb_yes, name_yes}
use Rattle.mq_calls.specs.State.Change.{CountIdent}
use Rattle.mq_calls.specs.Condition.{condition}
use Rattle.mq_calls.specs.Changes.{apply_all, try_if, made_due, depth_type}
use Rattle.mq_law_rows.specs.from_spec_manager.Put.{placed}
use Rattle.mq_law_rows.specs.from_spec_network.Standing.{last_unit_at}
use Rattle.mq_law_rows.specs.World.{Ghost, InHand, At, Inv}
use Rattle.mq_law_rows.specs.Kinds.{after, owned, give, place_row, book_place, with_rows}
use Rattle.mq_law_seen.specs.Seen.{units_of}
use Rattle.mq_law_rows.proofs.Lasting.{none_unborn}
use Rattle.mq_law_rows.proofs.Owners.{owned_self}
use Rattle.mq_law_rows.proofs.Placing.{gives, places_row}
use Rattle.mq_law_seen.proofs.Bridges.{queue_set, queue_named, placed_rows, mapped_if, get_changed, places_rows}

-- A change of one manager that leaves its connections and channels is a change of rows.
unit_kept : (f : Plain → Plain) → ((p : Plain) → (f p).connections ≡ p.connections) → (k : ℕ) (t : Bool) (o : Option Plain) → units_of k (mapped_if t f o) ≡ units_of k o
unit_kept f same k t None = refl
unit_kept f same k true (Some p) = ap (λ cs. unit_of (connection_at k cs)) (same p)
unit_kept f same k false (Some p) = refl

held_kept : (f : Plain → Plain) → ((p : Plain) → (f p).channels ≡ p.channels) → (c : List ℕ) (t : Bool) (o : Option Plain) → holds_of c (mapped_if t f o) ≡ holds_of c o
held_kept f same c t None = refl
held_kept f same c true (Some p) = ap (λ cs. held_unit (in_doubt_of (sender_in c cs.senders)) (batch_of c cs.batches)) (same p)
held_kept f same c false (Some p) = refl

doubt_kept : (f : Plain → Plain) → ((p : Plain) → (f p).channels ≡ p.channels) → (c : List ℕ) (t : Bool) (o : Option Plain) → doubt_of c (mapped_if t f o) ≡ doubt_of c o
doubt_kept f same c t None = refl
doubt_kept f same c true (Some p) = ap (λ cs. is_some (in_doubt_of (sender_in c cs.senders))) (same p)
doubt_kept f same c false (Some p) = refl

last_kept : (f : Plain → Plain) → ((p : Plain) → (f p).channels ≡ p.channels) → (c : List ℕ) (t : Bool) (o : Option Plain) → last_unit_at c (mapped_if t f o) ≡ last_unit_at c o
last_kept f same c t None = refl
last_kept f same c true (Some p) = ap (λ cs. last_unit_of (receiver_in c cs.receivers)) (same p)
last_kept f same c false (Some p) = refl

cable_kept : (m : ℕ) (f : Plain → Plain) (ps : List Plain) → ((p : Plain) → (f p).channels ≡ p.channels) → (c : List ℕ) (x : Option CableLine) → last_unit (change_at m f ps) c x ≡ last_unit ps c x
cable_kept m f ps same c None = refl
cable_kept m f ps same c (Some x) = ap (last_unit_at c) (get_changed m f ps x.receiver) ∙ last_kept f same c (x.receiver == m) (slice_get ps x.receiver)

lasts_kept : (s : Scenario) (m : ℕ) (f : Plain → Plain) (ps : List Plain) → ((p : Plain) → (f p).channels ≡ p.channels) → ((p : Plain) → (f p).given ≡ p.given) → (c : List ℕ) (t : Bool) (o : Option Plain)
    → last_of s (change_at m f ps) c (mapped_if t f o) ≡ last_of s ps c o
lasts_kept s m f ps same given c t None = refl
lasts_kept s m f ps same given c true (Some p) = ap (λ g. last_unit (change_at m f ps) c (cable_from g.number c s.cables)) (given p) ∙ cable_kept m f ps same c (cable_from p.given.number c s.cables)
lasts_kept s m f ps same given c false (Some p) = cable_kept m f ps same c (cable_from p.given.number c s.cables)

pub rows_alone : (s : Scenario) (known : Ident → Bool) (m : ℕ) (f : Plain → Plain) (ps : List Plain) → ((p : Plain) → (f p).connections ≡ p.connections) → ((p : Plain) → (f p).channels ≡ p.channels) → ((p : Plain) → (f p).given ≡ p.given)
    → world_of s known (change_at m f ps) ≡ with_rows (world_of s known ps) (λ a d. rows_of d (mapped_if (a == m) f (slice_get ps a)))
rows_alone s known m f ps conns chans given =
    let at : (a : ℕ) → slice_get (change_at m f ps) a ≡ mapped_if (a == m) f (slice_get ps a) = λ a. get_changed m f ps a in
    let units : (a k : ℕ) → units_of k (slice_get (change_at m f ps) a) ≡ units_of k (slice_get ps a) = λ a k. ap (units_of k) (at a) ∙ unit_kept f conns k (a == m) (slice_get ps a) in
    let holds : (a : ℕ) (c : List ℕ) → holds_of c (slice_get (change_at m f ps) a) ≡ holds_of c (slice_get ps a) = λ a c. ap (holds_of c) (at a) ∙ held_kept f chans c (a == m) (slice_get ps a) in
    let doubt : (a : ℕ) (c : List ℕ) → doubt_of c (slice_get (change_at m f ps) a) ≡ doubt_of c (slice_get ps a) = λ a c. ap (doubt_of c) (at a) ∙ doubt_kept f chans c (a == m) (slice_get ps a) in
    let last : (a : ℕ) (c : List ℕ) → last_of s (change_at m f ps) c (slice_get (change_at m f ps) a) ≡ last_of s ps c (slice_get ps a) = λ a c. ap (last_of s (change_at m f ps) c) (at a) ∙ lasts_kept s m f ps chans given c (a == m) (slice_get ps a) in
    λ i. record { rows = λ a d. rows_of d (at a i); units = λ a k. units a k i; given = known; holds = λ a c. holds a c i; doubt = λ a c. doubt a c i; last = λ a c. last a c i }

-- A trigger's condition leaves all rows.
tried : (t : Bool) (d name : List ℕ) (p : Plain) → (stored d (try_if t name p)).rows ≡ (stored d p).rows
tried false d name p = refl
tried true d name p =
    ap (λ (q : Queue). q.rows) (queue_set d (made_due (depth_type (local_of name p.definitions)) p.moment (stored name p)) p.queues)
    ∙ ap (λ z. (if bytes_eq d z then made_due (depth_type (local_of name p.definitions)) p.moment (stored name p) else queue_in d p.queues).rows) (queue_named name p.queues)
    ∙ bool_case (bytes_eq d name) (λ t. bytes_eq d name ≡ t → (if t then made_due (depth_type (local_of name p.definitions)) p.moment (stored name p) else queue_in d p.queues).rows ≡ (stored d p).rows)
    (λ e f. ap (λ z. (stored z p).rows) (sym (name_yes d name f))) (λ e f. refl) refl

try_connections : (t : Bool) (name : List ℕ) (p : Plain) → ((try_if t name p).connections ≡ p.connections) × ((try_if t name p).channels ≡ p.channels) × ((try_if t name p).given ≡ p.given)
try_connections true name p = (refl, refl, refl)
try_connections false name p = (refl, refl, refl)

-- what a put outside a unit, and a trigger message, do
abbrev pub put_changes : List ℕ → Message → Plain → Plain
put_changes q message p = apply_all (CountIdent ∷ placed q message) p

abbrev pub counted_one : Plain → Plain
counted_one p = apply CountIdent p

abbrev pub row_at : List ℕ → Message → Plain → Row
row_at q message p = new_row (lane_of (local_of q p.definitions) message.md.priority) ((stored q p).arrivals + 1) message

put_rows : (d q : List ℕ) (message : Message) (p : Plain) → (stored d (put_changes q message p)).rows ≡ (if bytes_eq d q then insert_row (row_at q message p) (stored q p).rows else (stored d p).rows)
put_rows d q message p =
    let placed_one : Plain = apply (Places q message) (counted_one p) in
    tried (condition (local_of q placed_one.definitions) message.md.priority placed_one) d q placed_one ∙ placed_rows d q message (counted_one p)

-- A put outside a unit keeps the facts, on the managers' and the ledger's own definitions.
pub put_keeps : (s : Scenario) (known : Ident → Bool) (ps : List Plain) (l : Ledger) (g : Ghost) (m : ℕ) (q : List ℕ) (message : Message) (p : Plain) (places : ManagerPlaces)
    → Inv (world_of s known ps) g (book_of l) → slice_get ps m ≡ Some p → slice_get l.places m ≡ Some places → places.definitions ≡ p.definitions → known message.ident ≡ false
    → Inv (world_of s (λ j. same_ident j message.ident || known j) (change_at m (put_changes q message) ps))
    (after (after g (owned message.ident (InHand m))) (owned message.ident (At m q)))
    (book_of (ledgers.place m q message l))
put_keeps s known ps l g m q message p places h is there same new =
    let i : Ident = message.ident in
    let now : Ident → Bool = λ j. same_ident j i || known j in
    let w : World = world_of s known ps in
    let f : Plain → Plain = put_changes q message in
    let row : Row = row_at q message p in
    let told : Row = new_row (lane_of (local_of q places.definitions) message.md.priority) 0 message in
    let after_place : (p : Plain) → Plain = λ p. apply (Places q message) (counted_one p) in
    let kept : (p : Plain) → ((f p).connections ≡ p.connections) × ((f p).channels ≡ p.channels) × ((f p).given ≡ p.given) = λ p.
    try_connections (condition (local_of q (after_place p).definitions) message.md.priority (after_place p)) q (after_place p) in
    let rows : (a : ℕ) (d : List ℕ) → rows_of d (mapped_if (a == m) f (slice_get ps a)) ≡ put_at w.rows m q (insert_row row (w.rows m q)) a d = λ a d.
    bool_case (a == m) (λ t. (a == m) ≡ t → rows_of d (mapped_if t f (slice_get ps a)) ≡ (if t && bytes_eq d q then insert_row row (w.rows m q) else w.rows a d))
    (λ e z. let am : slice_get ps a ≡ Some p = ap (slice_get ps) (eqb_yes a m z) ∙ is in
    ap (λ o. rows_of d (mapped_if true f o)) am ∙ put_rows d q message p
    ∙ (λ j. if bytes_eq d q then insert_row row (rows_of q (sym is j)) else rows_of d (sym am j)))
    (λ e z. ap (rows_of d) (unmapped f (slice_get ps a))) refl in
    let world : world_of s now (change_at m f ps) ≡ place_row (give w i) m q row = rows_alone s now m f ps (λ p. (kept p).0) (λ p. (kept p).1) (λ p. (kept p).2) ∙ (λ j. with_rows (world_of s now ps) (λ a d. rows a d j)) in
    let book : book_of (ledgers.place m q message l) ≡ book_place (book_of l) m q told =
    λ j. record { rows = λ a d. places_rows m q message places a d l there j; units = (book_of l).units; gone = l.gone; got = l.got } in
    let given_one : Inv (give w i) (after g (owned i (InHand m))) (book_of l) = gives w g (book_of l) m i h new in
    let lane : row_told told ≡ row_told row = ap (λ (d : Definitions). row_told (new_row (lane_of (local_of q d) message.md.priority) 0 message)) same in
    let done : Inv (place_row (give w i) m q row) (after (after g (owned i (InHand m))) (owned i (At m q))) (book_place (book_of l) m q told) =
    places_row (give w i) (after g (owned i (InHand m))) (book_of l) m q row told given_one (owned_self i (g.owner i) (InHand m)) refl lane (λ a d x n e. absurd (none_unborn w g (book_of l) i h new a d x n e)) in
    subst (λ (v : World). Inv v (after (after g (owned i (InHand m))) (owned i (At m q))) (book_of (ledgers.place m q message l))) (sym world)
    (subst (λ (b : Book). Inv (place_row (give w i) m q row) (after (after g (owned i (InHand m))) (owned i (At m q))) b) (sym book) done)
  where
    unmapped : (f : Plain → Plain) (o : Option Plain) → mapped_if false f o ≡ o
    unmapped f None = refl
    unmapped f (Some x) = refl
