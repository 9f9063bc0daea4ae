-- The handler's moves: the ledger takes the ident from where it has it, and places its own row. The ledger follows.
use Rattle.std.proofs.Common.{ℕ, ◌≡◌, Bool, true, false, not, List, [], ◌∷◌, refl, ap, sym, subst, ◌∙◌, inl, inr}
use Rattle.std.specs.Prelude.{pos, Option, Some, None, Result, Ok, Err, if◌then◌else◌, ◌&&◌, ◌||◌, slice_get, find}
use Rattle.std.specs.Str.{bytes_eq}
use Rattle.mq_message.specs.declared.message.Dest.{Dest}
use Rattle.mq_message.specs.declared.message.Ident.{Ident}
use Rattle.mq_message.specs.declared.message.Message.{Message}
use Rattle.mq_message.specs.declared.place.Holder.{Holder}
use Rattle.mq_message.specs.declared.place.Holder.TheVariants as holders
use Rattle.mq_codes.specs.declared.reason.Reason.{Reason}
use Rattle.mq_queue.specs.declared.row.Row.{Row}
use Rattle.mq_queue.specs.Rows.{same_ident, has_ident, keep}
use Rattle.mq_objects.specs.Names.{local_of}
use Rattle.mq_objects.specs.declared.object.LocalQueue.{LocalQueue}
use Rattle.mq_objects.specs.declared.object.Definitions.{Definitions}
use Rattle.mq_resolve.specs.declared.route.Route.{Route}
use Rattle.mq_resolve.specs.Resolved.{resolve}
use Rattle.mq_calls.specs.declared.image.Shelf.{Shelf}
use Rattle.mq_law_seen.specs.from_history.{ManagerPlaces}
use Rattle.mq_calls.specs.State.{Plain}
use Rattle.mq_calls.specs.State.Change.{Leave}
use Rattle.mq_calls.specs.State.Which.{Among}
use Rattle.mq_calls.specs.Reads.{stored, connection_at, is_persistent}
use Rattle.mq_calls.specs.Changes.{apply, apply_all, lane_of, new_row}
use Rattle.mq_spec_manager.specs.Put.{placed, queue_at, dest_at}
use Rattle.mq_spec_manager.specs.Moves.{bare_if}
use Rattle.mq_law_seen.specs.from_spec_network.Ledger as ledgers
use Rattle.mq_law_seen.specs.from_spec_network.Ledger.{Ledger, places_or, places_at, place_at, row_in, rows_in, take_from, leave_queues, move_row, moved_to, resolved_at, ledger_rows, unit_of}
use Rattle.mq_law_seen.specs.from_spec_network.Standing.{row_told}
use Rattle.mq_law_seen.specs.from_spec_network.Story.{Mem}
use Rattle.mq_law_seen.specs.from_law_rows.World.{World, Book, Ghost, At, Inv, away, stands, claim, is_forced}
use Rattle.mq_law_seen.proofs.from_law_rows.Lists.{bool_case, is_false, true_false, eqb_self, ident_yes, same_self, name_yes, name_self, keep_same}
use Rattle.mq_law_seen.proofs.from_law_rows.Owners.{standing_row, ledger_row}
use Rattle.mq_law_seen.proofs.from_law_rows.Holding.{only_one}
use Rattle.mq_law_seen.proofs.Bridges.{takes_from}
use Rattle.mq_law_manager.specs.Seen.{row_for}
use Rattle.mq_law_events.specs.Local.{Side, local, page, with_owner, Leads, side_of, sheet_of}
use Rattle.mq_law_events.specs.Tied.{AreShelved, IsTold, IsFresh, IsElse, Follow}
use Rattle.mq_law_events.proofs.Locals.{with_row, without, left_by, row_moves_leads}
use Rattle.mq_law_events.proofs.Telling.{left_shelved, here_changed, else_places, else_then}
use Rattle.mq_law_events.proofs.Putting.{rows_after, IsBeside, placed_rows, placed_beside, place_sheet, place_told, same_users, unborn_by}
use Rattle.mq_law_events.proofs.Taking.{told_beside}
use Rattle.mq_law_events.proofs.Committing.{beside_then}

-- Which row the ledger finds

-- among rows: the first of that ident, or none has it
abbrev FoundIn : Ident → List Row → Option Row → Type 0
FoundIn i rows None = (r : Row) → Mem r rows → r.message.ident ≡ i → ⊥
FoundIn i rows (Some row) = Mem row rows × (row.message.ident ≡ i)

found_later : (i : Ident) (x : Row) (rows : List Row) (o : Option Row) → same_ident x.message.ident i ≡ false → FoundIn i rows o → FoundIn i (x ∷ rows) o
found_later i x rows None ne f = λ r n e. elim n [ inl q ↦ true_false (sym (ap (λ (y : Row). same_ident y.message.ident i) (sym q) ∙ ap (λ j. same_ident j i) e ∙ same_self i) ∙ ne) | inr k ↦ f r k e ]
found_later i x rows (Some row) ne f = (inr f.0, f.1)

find_in : (i : Ident) (rows : List Row) → FoundIn i rows (find (has_ident i) rows)
find_in i [] = λ r n e. n
find_in i (x ∷ rows) = bool_case (same_ident x.message.ident i) (λ t. same_ident x.message.ident i ≡ t → FoundIn i (x ∷ rows) (if t then Some x else find (has_ident i) rows))
    (λ z w. (inl refl, ident_yes x.message.ident i w)) (λ z w. found_later i x rows (find (has_ident i) rows) w (find_in i rows)) refl

-- among shelves: it stands on one by its name, or none has it
pub record IsIn (i : Ident) (qs : List Shelf) (row : Row) : Type 0 where
  pub queue : List ℕ
  pub there : Mem row (rows_in queue qs)
  pub is : row.message.ident ≡ i

abbrev pub InShelves : Ident → List Shelf → Option Row → Type 0
InShelves i qs None = (name : List ℕ) (r : Row) → Mem r (rows_in name qs) → r.message.ident ≡ i → ⊥
InShelves i qs (Some row) = IsIn i qs row

named_in : (name : List ℕ) (row : Row) (qs : List Shelf) → Mem row (rows_in name qs) → (s : Shelf) × Mem s qs × (name ≡ s.name)
named_in name row [] n = absurd n
named_in name row (q ∷ qs) n = bool_case (bytes_eq name q.name) (λ t. bytes_eq name q.name ≡ t → Mem row (if t then q.rows else rows_in name qs) → (s : Shelf) × Mem s (q ∷ qs) × (name ≡ s.name))
    (λ z w k. (q, inl refl, name_yes name q.name w)) (λ z w k. let r = named_in name row qs k in (r.0, inr r.1, r.2)) refl n

shelf_other : (a b : List ℕ) → bytes_eq a b ≡ false → bytes_eq b a ≡ false
shelf_other a b e = is_false (bytes_eq b a) (λ t. true_false (sym (ap (λ z. bytes_eq z b) (sym (name_yes b a t)) ∙ name_self b) ∙ e))

behind_shelf : (i : Ident) (q : Shelf) (qs : List Shelf) (o : Option Row) → ((r : Row) → Mem r q.rows → r.message.ident ≡ i → ⊥) → ((s : Shelf) → Mem s qs → bytes_eq q.name s.name ≡ false) → InShelves i qs o → InShelves i (q ∷ qs) o
behind_shelf i q qs None none apart f = λ name r n e. bool_case (bytes_eq name q.name) (λ t. Mem r (if t then q.rows else rows_in name qs) → ⊥) (λ z k. none r k e) (λ z k. f name r k e) n
behind_shelf i q qs (Some row) none apart f =
    let s = named_in f.queue row qs f.there in
    record {
      queue = f.queue;
      there = subst (λ t. Mem row (if t then q.rows else rows_in f.queue qs)) (sym (ap (λ z. bytes_eq z q.name) s.2 ∙ shelf_other q.name s.0.name (apart s.0 s.1))) f.there;
      is = f.is;
    }

first_shelf : (i : Ident) (q : Shelf) (qs : List Shelf) (o : Option Row) → FoundIn i q.rows o → ((s : Shelf) → Mem s qs → bytes_eq q.name s.name ≡ false) → InShelves i qs (row_in i qs)
    → InShelves i (q ∷ qs) (elim o as (λ r. Option Row) [ None ↦ row_in i qs | Some row ↦ Some row ])
first_shelf i q qs None none apart f = behind_shelf i q qs (row_in i qs) none apart f
first_shelf i q qs (Some row) found apart f = record { queue = q.name; there = subst (λ t. Mem row (if t then q.rows else rows_in q.name qs)) (sym (name_self q.name)) found.0; is = found.1 }

pub row_in_is : (i : Ident) (qs : List Shelf) → AreShelved qs → InShelves i qs (row_in i qs)
row_in_is i [] apart = λ name r n e. n
row_in_is i (q ∷ qs) apart = first_shelf i q qs (find (has_ident i) q.rows) (find_in i q.rows) apart.0 (row_in_is i qs apart.1)

-- With the facts: the ledger finds a row that is told as the free row of the queue is.

free_is_at : (m a : ℕ) (q d : List ℕ) (x : Option Holder) → At m q ≡ claim a d x → (q ≡ d) × (x ≡ None)
free_is_at m a q d None e = (cc, refl)
free_is_at m a q d (Some (holders.Unit k)) e = absurd cc
free_is_at m a q d (Some (holders.Batch c)) e = absurd cc

found_so : (m : ℕ) (q : List ℕ) (x : Row) (v : Side) (l : Ledger) (w : World) (g : Ghost) (b : Book) → Inv (local w m v) g (page b m v (sheet_of m l)) → AreShelved (places_at m l).queues → Mem x (v.rows q) → x.by ≡ None
    → (row : Row) × (row_in x.message.ident (places_at m l).queues ≡ Some row) × (row_told row ≡ row_told x)
found_so m q x v l w g b h apart n free = go (row_in x.message.ident (places_at m l).queues) refl (row_in_is x.message.ident (places_at m l).queues apart)
  where
    here : Mem x ((local w m v).rows m q)
    here = subst (λ t. Mem x (if t then v.rows q else w.rows m q)) (sym (eqb_self m)) n

    stood : stands (away (local w m v) m) x.by ≡ true
    stood = ap (stands (away (local w m v) m)) free

    owner : g.owner x.message.ident ≡ At m q
    owner = h.claims m q x here stood ∙ ap (claim m q) free

    listed : (d : List ℕ) (r : Row) → Mem r (ledger_rows m d l) → Mem r ((page b m v (sheet_of m l)).rows m d)
    listed d r k = subst (λ t. Mem r (if t then ledger_rows m d l else b.rows m d)) (sym (eqb_self m)) k

    unlisted : (d : List ℕ) (r : Row) → Mem r ((page b m v (sheet_of m l)).rows m d) → Mem r (ledger_rows m d l)
    unlisted d r k = subst (λ t. Mem r (if t then ledger_rows m d l else b.rows m d)) (eqb_self m) k

    go : (o : Option Row) → row_in x.message.ident (places_at m l).queues ≡ o → InShelves x.message.ident (places_at m l).queues o → (row : Row) × (row_in x.message.ident (places_at m l).queues ≡ Some row) × (row_told row ≡ row_told x)
    go None e none = let r = standing_row (local w m v) g (page b m v (sheet_of m l)) h m q x here stood in absurd (none q r.0 (unlisted q r.0 r.1) (ap (λ (y : Row). y.message.ident) (sym r.2)))
    go (Some row) e found = (row, e, told)
      where
        same_owner : g.owner row.message.ident ≡ At m q
        same_owner = ap g.owner found.is ∙ owner

        told : row_told row ≡ row_told x
        told = elim (ledger_row (local w m v) g (page b m v (sheet_of m l)) h m found.queue row (listed found.queue row found.there)) [
          | inl z ↦ absurd (true_false (sym z ∙ ap is_forced same_owner))
          | inr z ↦ let k = free_is_at m m q found.queue z.0.by (sym same_owner ∙ ap (λ (y : Row). g.owner y.message.ident) z.3 ∙ h.claims m found.queue z.0 z.1 z.2) in
              z.3 ∙ ap row_told (only_one ((local w m v).rows m q) z.0 x (h.distinct m q) (subst (λ d. Mem z.0 ((local w m v).rows m d)) (sym k.0) z.1) here (ap (λ (y : Row). y.message.ident) (sym z.3) ∙ found.is))
        ]

-- What it places

abbrev message_told : Message → Message
message_told m = record m { md = record m.md { backout_count = pos 0 } }

bare_told : (bare : Bool) (m : Message) → message_told (bare_if bare m) ≡ bare_if bare (message_told m)
bare_told true m = refl
bare_told false m = refl

pub bare_ident : (bare : Bool) (m : Message) → (bare_if bare m).ident ≡ m.ident
bare_ident true m = refl
bare_ident false m = refl

bare_lasting : (bare : Bool) (m : Message) → is_persistent (bare_if bare m) ≡ is_persistent m
bare_lasting true m = refl
bare_lasting false m = refl

-- the row as it is told, from its message as it is told
abbrev placed_told : Option LocalQueue → Message → Row
placed_told o m = record { place = record { lane = lane_of o m.md.priority; arrival = 0 }; message = m; by = None }

abbrev routed : Route → Message → Message
routed route m = record m { route = dest_at route.end }

moved_told : (bare : Bool) (route : Route) (a b : Message) → message_told a ≡ message_told b → message_told (routed route (bare_if bare a)) ≡ message_told (routed route (bare_if bare b))
moved_told bare route a b e = ap (routed route) (bare_told bare a ∙ ap (bare_if bare) e ∙ sym (bare_told bare b))

or_none : (t : Bool) → (t || false) ≡ t
or_none true = refl
or_none false = refl

-- the manager after the move
abbrev pub moved : List ℕ → Bool → Route → Row → Plain → Plain
moved from bare route x p = apply_all (Leave (Among from ((routed route (bare_if bare x.message)).ident ∷ [])) ∷ placed (queue_at route.end) (routed route (bare_if bare x.message))) p

moves_lead : (m : ℕ) (given : Ident → Bool) (p : Plain) (l : Ledger) (from : List ℕ) (x : Row) (to : Dest) (bare : Bool) (route : Route) → IsTold m p l → AreShelved (places_at m l).queues → Mem x (stored from p).rows → x.by ≡ None
    → resolve p.definitions p.given.name to.queue to.qmgr ≡ Ok route
    → Leads m (side_of p given) (sheet_of m l) (side_of (moved from bare route x p) given) (sheet_of m (move_row m to bare (row_in x.message.ident (places_at m l).queues) l))
moves_lead m given p l from x to bare route t apart n free is w g b h =
    let v : Side = side_of p given in
    let found = found_so m from x v l w g b h apart n free in
    let q : List ℕ = queue_at route.end in
    let mine : Message = routed route (bare_if bare x.message) in
    let its : Message = routed route (bare_if bare found.0.message) in
    let p1 : Plain = apply (Leave (Among from (mine.ident ∷ []))) p in
    let l1 : Ledger = take_from m its.ident l in
    let ident : mine.ident ≡ x.message.ident = bare_ident bare x.message in
    let idents : its.ident ≡ x.message.ident = bare_ident bare found.0.message ∙ ap (λ (y : Row). y.message.ident) found.2 in
    let resolved : resolved_at m to.queue to.qmgr l ≡ Ok route = ap (λ o. resolve (places_or o).definitions (places_or o).name to.queue to.qmgr) t.placed ∙ (λ i. resolve (t.definitions i) (t.name i) to.queue to.qmgr) ∙ is in
    let whole : move_row m to bare (row_in x.message.ident (places_at m l).queues) l ≡ ledgers.place m q its l1 =
    ap (λ o. move_row m to bare o l) found.1 ∙ ap (λ r. moved_to m (bare_if bare found.0.message) r l) resolved in
    let f : ManagerPlaces → ManagerPlaces = λ p. record p { queues = leave_queues (λ (row : Row). not (has_ident its.ident row)) p.queues } in
    let there : slice_get l1.places m ≡ Some (f t.places) = here_changed m f l.places t.places t.placed in
    let told : Row = new_row (lane_of (local_of q t.places.definitions) its.md.priority) 0 its in
    let same : row_told told ≡ row_told (row_for q mine p1) =
    ap (placed_told (local_of q t.places.definitions)) (moved_told bare route found.0.message x.message (ap (λ (y : Row). y.message) found.2)) ∙ ap (λ (d : Definitions). placed_told (local_of q d) (message_told mine)) t.definitions in
    let r = row_moves_leads m from q x (row_for q mine p1) told v (sheet_of m l) n free ident refl same (sym (bare_lasting bare x.message)) w g b h in
    let left : (d : List ℕ) → (stored d p1).rows ≡ without from x.message.ident v.rows d = λ d.
    rows_after (Leave (Among from (mine.ident ∷ []))) p d tt ∙ keep_same _ _ (stored d p).rows (λ y k. ap (λ z. not (bytes_eq d from && z)) (or_none (same_ident y.message.ident mine.ident) ∙ ap (same_ident y.message.ident) ident)) in
    let side : record { rows = with_row q (row_for q mine p1) (without from x.message.ident v.rows); units = v.units; given = given } ≡ side_of (moved from bare route x p) given =
    λ i. record {
      rows = λ d. ((λ j. with_row q (row_for q mine p1) (λ e. sym (left e) j) d) ∙ sym (placed_rows q mine p1 d)) i;
      units = λ k. unit_of (connection_at k (sym (placed_beside q mine p1).connections i));
      given = given;
    } in
    let taken : (d : List ℕ) → ledger_rows m d l1 ≡ left_by x.message.ident (λ d. ledger_rows m d l) d = λ d.
    takes_from m its.ident m d l ∙ ap (λ z. keep (λ y. not (z && same_ident y.message.ident its.ident)) (ledger_rows m d l)) (eqb_self m) ∙ ap (λ z. left_by z (λ d. ledger_rows m d l) d) idents in
    let sheet : record { rows = with_row q told (left_by x.message.ident (λ d. ledger_rows m d l)); gone = l.gone; got = l.got } ≡ sheet_of m (move_row m to bare (row_in x.message.ident (places_at m l).queues) l) =
    (λ i. record { rows = λ d. ((λ j. with_row q told (λ e. sym (taken e) j) d) ∙ sym (place_sheet m q d its l1 (f t.places) there)) i; gone = l.gone; got = l.got }) ∙ ap (sheet_of m) (sym whole) in
    record {
      owner = r.owner;
      inv = subst (λ z. Inv (local w m z) (with_owner g r.owner) (page b m z (sheet_of m (move_row m to bare (row_in x.message.ident (places_at m l).queues) l)))) side
          (subst (λ z. Inv (local w m (record { rows = with_row q (row_for q mine p1) (without from x.message.ident v.rows); units = v.units; given = given })) (with_owner g r.owner)
          (page b m (record { rows = with_row q (row_for q mine p1) (without from x.message.ident v.rows); units = v.units; given = given }) z)) sheet r.inv);
    }

-- told, whatever it finds
move_told : (m : ℕ) (p r : Plain) (l : Ledger) (to : Dest) (bare : Bool) (o : Option Row) → IsTold m p l → IsBeside p r → IsTold m r (move_row m to bare o l)
move_told m p r l to bare None t b = told_beside m p r l b t
move_told m p r l to bare (Some row) t b = go (resolved_at m to.queue to.qmgr l)
  where
    go : (x : Result Route Reason) → IsTold m r (moved_to m (bare_if bare row.message) x l)
    go (Err reason) = told_beside m p r l b t
    go (Ok route) =
        let i : Ident = (bare_if bare row.message).ident in
        let f : ManagerPlaces → ManagerPlaces = λ p. record p { queues = leave_queues (λ (row : Row). not (has_ident i row)) p.queues } in
        let t1 : IsTold m p (take_from m i l) = record { places = f t.places; placed = here_changed m f l.places t.places t.placed; shelved = left_shelved (λ (row : Row). not (has_ident i row)) t.places.queues t.shelved; name = t.name; definitions = t.definitions; users = t.users; used = t.used; connections = t.connections } in
        place_told m p r (take_from m i l) (queue_at route.end) (routed route (bare_if bare row.message)) t1 b.given b.definitions b.connections b.moment

move_else : (m : ℕ) (l : Ledger) (to : Dest) (bare : Bool) (o : Option Row) → IsElse m l (move_row m to bare o l) × ((move_row m to bare o l).users ≡ l.users)
move_else m l to bare None = (record { places = λ a e. refl; users = λ a e. refl }, refl)
move_else m l to bare (Some row) = go (resolved_at m to.queue to.qmgr l)
  where
    go : (x : Result Route Reason) → IsElse m l (moved_to m (bare_if bare row.message) x l) × ((moved_to m (bare_if bare row.message) x l).users ≡ l.users)
    go (Err reason) = (record { places = λ a e. refl; users = λ a e. refl }, refl)
    go (Ok route) =
        let i : Ident = (bare_if bare row.message).ident in (
          else_then m l (take_from m i l) (ledgers.place m (queue_at route.end) (routed route (bare_if bare row.message)) (take_from m i l))
              (else_places m (λ p. record p { queues = leave_queues (λ (row : Row). not (has_ident i row)) p.queues }) l) (else_places m (place_at (queue_at route.end) (routed route (bare_if bare row.message))) (take_from m i l)),
          refl,
        )

pub move_follows : (m : ℕ) (given : Ident → Bool) (p : Plain) (l : Ledger) (from : List ℕ) (x : Row) (to : Dest) (bare : Bool) (route : Route) → IsFresh given p → IsTold m p l → AreShelved (places_at m l).queues → Mem x (stored from p).rows → x.by ≡ None
    → resolve p.definitions p.given.name to.queue to.qmgr ≡ Ok route
    → Follow m given p l (moved from bare route x p) (move_row m to bare (row_in x.message.ident (places_at m l).queues) l)
move_follows m given p l from x to bare route f t apart n free is =
    let mine : Message = routed route (bare_if bare x.message) in
    let p1 : Plain = apply (Leave (Among from (mine.ident ∷ []))) p in
    let r : Plain = moved from bare route x p in
    let k : Ledger = move_row m to bare (row_in x.message.ident (places_at m l).queues) l in
    let b : IsBeside p r = beside_then p p1 r (record { given = refl; definitions = refl; connections = refl; channels = refl; moment = refl; numbers = refl }) (placed_beside (queue_at route.end) mine p1) in
    let e = move_else m l to bare (row_in x.message.ident (places_at m l).queues) in
    record {
      now = given;
      leads = moves_lead m given p l from x to bare route t apart n free is;
      fresh = λ i z. f i (sym (λ j. unborn_by (b.given j) (b.numbers j) i) ∙ z);
      known = λ i z. refl;
      told = move_told m p r l to bare (row_in x.message.ident (places_at m l).queues) t b;
      same = record { given = b.given; senders = (λ i. (b.channels i).senders); receivers = (λ i. (b.channels i).receivers); batches = (λ i. (b.channels i).batches) };
      steady = b.moment;
      other = e.0;
      kept = same_users m l k e.1;
    }

-- where the ledger tells the manager, and so has no list twice
pub move_once_told : (m : ℕ) (given : Ident → Bool) (p : Plain) (l : Ledger) (from : List ℕ) (x : Row) (to : Dest) (bare : Bool) (route : Route) → IsFresh given p → IsTold m p l → Mem x (stored from p).rows → x.by ≡ None
    → resolve p.definitions p.given.name to.queue to.qmgr ≡ Ok route
    → Follow m given p l (moved from bare route x p) (move_row m to bare (row_in x.message.ident (places_at m l).queues) l)
move_once_told m given p l from x to bare route f t n free is =
    move_follows m given p l from x to bare route f t (subst (λ o. AreShelved (places_or o).queues) (sym t.placed) t.shelved) n free is
