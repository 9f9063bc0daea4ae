-- The ledger's step for a receiver's commit, on its own lists: what it takes, and where each message lands.
use Rattle.std.proofs.Common.{ℕ, zero, suc, ◌≡◌, ◌++◌, Bool, true, false, not, List, [], ◌∷◌, refl, ap, sym, subst, ◌∙◌, inl, inr, map}
use Rattle.std.specs.Prelude.{Option, Some, None, Result, Ok, Err, if◌then◌else◌, ◌&&◌, ◌||◌, ◌+◌, slice_get, flat_map}
use Rattle.std.specs.Str.{bytes_eq}
use Rattle.std.specs.List.{list_any}
use Rattle.mq_codes.specs.declared.reason.Reason.{Reason}
use Rattle.mq_message.specs.declared.message.Ident.{Ident}
use Rattle.mq_message.specs.declared.message.Message.{Message}
use Rattle.mq_queue.specs.declared.row.Row.{Row}
use Rattle.mq_queue.specs.Rows.{same_ident, insert_row, keep}
use Rattle.mq_objects.specs.Names.{local_of}
use Rattle.mq_calls.specs.from_resolve.{Route}
use Rattle.mq_calls.specs.declared.deltas.Did.{Did}
use Rattle.mq_calls.specs.declared.image.Shelf.{Shelf}
use Rattle.mq_law_rows.specs.from_history.{ManagerPlaces}
use Rattle.mq_calls.specs.Reads.{is_persistent}
use Rattle.mq_calls.specs.Changes.{lane_of, new_row}
use Rattle.mq_law_rows.specs.from_spec_manager.Put.{queue_at, dest_at}
use Rattle.mq_law_rows.specs.from_spec_manager.Agents.{names_of, dead_message}
use Rattle.mq_law_rows.specs.from_spec_network.Story.{Mem}
use Rattle.mq_law_rows.specs.from_spec_network.Ledger as ledgers
use Rattle.mq_law_rows.specs.from_spec_network.Ledger.{Ledger, places_or, places_at, users_at, is_one_of, leave_queues, take_everywhere, idents_of, idents_at, placed_idents, is_admitted, own_row, dead_reason, resolved_at, place_received, place_list, when, rows_in, ledger_rows}
use Rattle.mq_law_rows.specs.Families.{is_here, put_at}
use Rattle.mq_law_rows.specs.World.{Tag, tag_of, IsPlaced}
use Rattle.mq_law_rows.specs.Kinds.{among, Landing, place_all}
use Rattle.mq_law_rows.proofs.Lists.{bool_case, eqb_self, here_yes, mem_map}
use Rattle.mq_law_rows.proofs.Receiving.{mem_any}
use Rattle.mq_law_seen.proofs.Bridges.{mapped_if, get_changed, places_rows, takes_everywhere}

-- a message, and the queue that it is placed on
pub record Placing : Type 0 where
  pub queue : List ℕ
  pub message : Message

abbrev pub routed : Message → Result Route Reason → Option Placing
routed message (Err reason) = None
routed message (Ok route) = Some (record { queue = queue_at route.end; message = record message { route = dest_at route.end } })

abbrev pub placing : ℕ → List ℕ → Ledger → Message → Option Reason → Option Placing
placing m channel l message None = routed message (resolved_at m (names_of message.route).queue (names_of message.route).qmgr l)
placing m channel l message (Some reason) = Some (record { queue = (places_at m l).definitions.manager.dead_letter_queue; message = dead_message channel reason message (users_at m l).moment })

abbrev pub place_maybe : ℕ → Option Placing → Ledger → Ledger
place_maybe m None l = l
place_maybe m (Some p) l = ledgers.place m p.queue p.message l

routed_is : (m : ℕ) (message : Message) (r : Result Route Reason) (l : Ledger) → ledgers.place_routed m message r l ≡ place_maybe m (routed message r) l
routed_is m message (Err reason) l = refl
routed_is m message (Ok route) l = refl

pub received_is : (m : ℕ) (channel : List ℕ) (message : Message) (dead : Option Reason) (l : Ledger) → place_received m channel message dead l ≡ place_maybe m (placing m channel l message dead) l
received_is m channel message None l = routed_is m message (resolved_at m (names_of message.route).queue (names_of message.route).qmgr l) l
received_is m channel message (Some reason) l = refl

-- where it stands then
abbrev pub landing_at : ℕ → Placing → Ledger → Landing
landing_at m p l = record { queue = p.queue; row = new_row (lane_of (local_of p.queue (places_at m l).definitions) p.message.md.priority) 0 p.message }

abbrev pub landing_maybe : ℕ → Option Placing → Ledger → List Landing → List Landing
landing_maybe m None l rest = rest
landing_maybe m (Some p) l rest = landing_at m p l ∷ rest

abbrev pub landing_if : Bool → ℕ → Option Placing → Ledger → List Landing → List Landing
landing_if true m p l rest = landing_maybe m p l rest
landing_if false m p l rest = rest

abbrev pub landings : ℕ → List ℕ → List Did → Ledger → Ledger → List Message → List Landing
landings m channel ds before l [] = []
landings m channel ds before l (message ∷ ms) =
    landing_if (is_admitted before message) m (placing m channel l (own_row before message) (dead_reason message.ident ds)) l
    (landings m channel ds before (when (is_admitted before message) (place_received m channel (own_row before message) (dead_reason message.ident ds)) l) ms)

-- a manager that the ledger has, it has after a message is placed
still_there : (m : ℕ) (p : Option Placing) (l : Ledger) (places : ManagerPlaces) → slice_get l.places m ≡ Some places → (more : ManagerPlaces) × (slice_get (place_maybe m p l).places m ≡ Some more)
still_there m None l places is = (places, is)
still_there m (Some p) l places is = (
  ledgers.place_at p.queue p.message places,
  get_changed m (ledgers.place_at p.queue p.message) l.places m ∙ (λ i. mapped_if (eqb_self m i) (ledgers.place_at p.queue p.message) (is i)),
)

one_lands : (m : ℕ) (p : Option Placing) (l : Ledger) (places : ManagerPlaces) (a : ℕ) (d : List ℕ) (rest : List Landing) → slice_get l.places m ≡ Some places
    → place_all m rest a d (ledger_rows a d (place_maybe m p l)) ≡ place_all m (landing_maybe m p l rest) a d (ledger_rows a d l)
one_lands m None l places a d rest is = refl
one_lands m (Some p) l places a d rest is =
    let same : places_at m l ≡ places = ap places_or is in
    let row = (landing_at m p l).row in
    ap (place_all m rest a d) (
    places_rows m p.queue p.message places a d l is
    ∙ ap (λ (q : ManagerPlaces). put_at (λ a d. ledger_rows a d l) m p.queue (insert_row (new_row (lane_of (local_of p.queue q.definitions) p.message.md.priority) 0 p.message) (ledger_rows m p.queue l)) a d) (sym same)
    ∙ bool_case (is_here m p.queue a d) (λ t. is_here m p.queue a d ≡ t → (if t then insert_row row (ledger_rows m p.queue l) else ledger_rows a d l) ≡ (if t then insert_row row (ledger_rows a d l) else ledger_rows a d l))
    (λ e f. let k = here_yes m p.queue a d f in (λ i. insert_row row (ledger_rows (sym k.0 i) (sym k.1 i) l))) (λ e f. refl) refl)

list_lands : (m : ℕ) (channel : List ℕ) (ds : List Did) (before l : Ledger) (ms : List Message) (places : ManagerPlaces) (a : ℕ) (d : List ℕ) → slice_get l.places m ≡ Some places
    → ledger_rows a d (place_list m channel ds before ms l) ≡ place_all m (landings m channel ds before l ms) a d (ledger_rows a d l)
list_lands m channel ds before l [] places a d is = refl
list_lands m channel ds before l (message ∷ ms) places a d is =
    go (is_admitted before message) (λ (x : Ledger) (more : ManagerPlaces) (there : slice_get x.places m ≡ Some more). list_lands m channel ds before x ms more a d there)
  where
    dead : Option Reason
    dead = dead_reason message.ident ds

    own : Message
    own = own_row before message

    go : (t : Bool) → ((x : Ledger) (more : ManagerPlaces) → slice_get x.places m ≡ Some more → ledger_rows a d (place_list m channel ds before ms x) ≡ place_all m (landings m channel ds before x ms) a d (ledger_rows a d x))
        → ledger_rows a d (place_list m channel ds before ms (when t (place_received m channel own dead) l))
        ≡ place_all m (landing_if t m (placing m channel l own dead) l (landings m channel ds before (when t (place_received m channel own dead) l) ms)) a d (ledger_rows a d l)
    go false rest = rest l places is
    go true rest =
        let step : place_received m channel own dead l ≡ place_maybe m (placing m channel l own dead) l = received_is m channel own dead l in
        let next = still_there m (placing m channel l own dead) l places is in
        rest (place_received m channel own dead l) next.0 (ap (λ (x : Ledger). slice_get x.places m) step ∙ next.1)
        ∙ ap (λ (x : Ledger). place_all m (landings m channel ds before (place_received m channel own dead l) ms) a d (ledger_rows a d x)) step
        ∙ one_lands m (placing m channel l own dead) l places a d (landings m channel ds before (place_received m channel own dead l) ms) is

pub mapped_get : {A : Type 0} (f : A → A) (xs : List A) (m : ℕ) (x : A) → slice_get xs m ≡ Some x → slice_get (map f xs) m ≡ Some (f x)
mapped_get f [] m x e = absurd cc
mapped_get f (y ∷ xs) zero x e = let same : y ≡ x = cc in ap (λ z. Some (f z)) same
mapped_get f (y ∷ xs) (suc m) x e = mapped_get f xs m x e

-- The whole step is the kind's: the idents are taken everywhere, then each message lands.
pub receipt_rows : (m : ℕ) (channel : List ℕ) (ms : List Message) (ds : List Did) (l : Ledger) (places : ManagerPlaces) (a : ℕ) (d : List ℕ) → slice_get l.places m ≡ Some places
    → ledger_rows a d (ledgers.receive m channel ms ds l)
    ≡ place_all m (landings m channel ds l (take_everywhere (idents_of ms) l) ms) a d (keep (λ r. not (among (idents_of ms) r.message.ident)) (ledger_rows a d l))
receipt_rows m channel ms ds l places a d is =
    list_lands m channel ds l (take_everywhere (idents_of ms) l) ms _ a d (mapped_get (λ (p : ManagerPlaces). record p { queues = leave_queues (λ (row : Row). not (is_one_of (idents_of ms) row)) p.queues }) l.places m places is)
    ∙ ap (place_all m (landings m channel ds l (take_everywhere (idents_of ms) l) ms) a d) (takes_everywhere (idents_of ms) a d l)

-- Who is admitted: what the ledger has, and what is not persistent and was never taken.
pub rows_placed : (q : List ℕ) (qs : List Shelf) (row : Row) → Mem row (rows_in q qs) → Mem row.message.ident (flat_map (λ (q : Shelf). map (λ (row : Row). row.message.ident) q.rows) qs)
rows_placed q [] row n = absurd n
rows_placed q (x ∷ qs) row n = bool_case (bytes_eq q x.name) (λ t. Mem row (if t then x.rows else rows_in q qs) → Mem row.message.ident (map (λ (row : Row). row.message.ident) x.rows ++ flat_map (λ (q : Shelf). map (λ (row : Row). row.message.ident) q.rows) qs))
    (λ e k. mem_left row.message.ident (map (λ (row : Row). row.message.ident) x.rows) _ (mem_map (λ (row : Row). row.message.ident) row x.rows k)) (λ e k. mem_right row.message.ident (map (λ (row : Row). row.message.ident) x.rows) _ (rows_placed q qs row k)) n
  where
    mem_left : (j : Ident) (xs ys : List Ident) → Mem j xs → Mem j (xs ++ ys)
    mem_left j [] ys n = absurd n
    mem_left j (x ∷ xs) ys (inl e) = inl e
    mem_left j (x ∷ xs) ys (inr n) = inr (mem_left j xs ys n)

    mem_right : (j : Ident) (xs ys : List Ident) → Mem j ys → Mem j (xs ++ ys)
    mem_right j [] ys n = n
    mem_right j (x ∷ xs) ys n = inr (mem_right j xs ys n)

managers_placed : (i : Ident) (ps : List ManagerPlaces) (m : ℕ) → Mem i (idents_at (places_or (slice_get ps m))) → Mem i (flat_map idents_at ps)
managers_placed i [] m n = n
managers_placed i (p ∷ ps) zero n = mem_left i (idents_at p) (flat_map idents_at ps) n
  where
    mem_left : (j : Ident) (xs ys : List Ident) → Mem j xs → Mem j (xs ++ ys)
    mem_left j [] ys n = absurd n
    mem_left j (x ∷ xs) ys (inl e) = inl e
    mem_left j (x ∷ xs) ys (inr n) = inr (mem_left j xs ys n)
managers_placed i (p ∷ ps) (suc m) n = mem_right i (idents_at p) (flat_map idents_at ps) (managers_placed i ps m n)
  where
    mem_right : (j : Ident) (xs ys : List Ident) → Mem j ys → Mem j (xs ++ ys)
    mem_right j [] ys n = n
    mem_right j (x ∷ xs) ys n = inr (mem_right j xs ys n)

pub row_is_placed : (l : Ledger) (m : ℕ) (q : List ℕ) (row : Row) → Mem row (ledger_rows m q l) → list_any (same_ident row.message.ident) (placed_idents l) ≡ true
row_is_placed l m q row n = mem_any row.message.ident (placed_idents l) (managers_placed row.message.ident l.places m (rows_placed q (places_at m l).queues row n))

or_true : (t : Bool) → (t || true) ≡ true
or_true true = refl
or_true false = refl

-- each message of a unit that the facts speak of is admitted
pub admitted : (l : Ledger) (m : ℕ) (message : Message) → (is_persistent message ≡ true → IsPlaced (tag_of message) (λ q. ledger_rows m q l)) → (is_persistent message ≡ false → list_any (same_ident message.ident) l.gone ≡ false) → is_admitted l message ≡ true
admitted l m message lasting fleeting = go (is_persistent message) refl
  where
    go : (t : Bool) → is_persistent message ≡ t → (list_any (same_ident message.ident) (placed_idents l) || (not t && not (list_any (same_ident message.ident) l.gone))) ≡ true
    go true e = let p = lasting e in
        let hit : list_any (same_ident message.ident) (placed_idents l) ≡ true = ap (λ (t : Tag). list_any (same_ident t.ident) (placed_idents l)) (sym p.tag) ∙ row_is_placed l m p.queue p.row p.there in
        subst (λ t. (t || false) ≡ true) (sym hit) refl
    go false e = subst (λ t. (list_any (same_ident message.ident) (placed_idents l) || not t) ≡ true) (sym (fleeting e)) (or_true (list_any (same_ident message.ident) (placed_idents l)))
