-- Each change of a manager's rows, and each step of the ledger, is a change of the families that the laws see.
use Rattle.std.proofs.Common.{ℕ, zero, suc, ◌≡◌, ◌+◌, Bool, true, false, not, List, [], ◌∷◌, refl, ap, sym, ◌∙◌, arith, map}
use Rattle.std.specs.Prelude.{Option, Some, None, ◌==◌, if◌then◌else◌, ◌&&◌, not, slice_get, filter, is_some}
use Rattle.std.specs.Str.{bytes_eq}
use Rattle.std.proofs.lemmas.Bool.Decides.{nat_tests}
use Rattle.mq_message.specs.declared.message.Ident.{Ident}
use Rattle.mq_message.specs.declared.message.Message.{Message}
use Rattle.mq_message.specs.declared.place.Holder.{Holder}
use Rattle.mq_message.specs.declared.place.Holder.TheVariants as holders
use Rattle.mq_queue.specs.declared.row.Row.{Row}
use Rattle.mq_queue.specs.Rows.{same_ident, has_ident, insert_row, keep, retag, is_free}
use Rattle.mq_objects.specs.Names.{local_of}
use Rattle.mq_sync.specs.declared.unit.Unit.{Unit as Luw}
use Rattle.mq_sync.specs.declared.data.InDoubt.{InDoubt}
use Rattle.mq_calls.specs.declared.state.Batch.{Batch}
use Rattle.mq_calls.specs.declared.image.Shelf.{Shelf}
use Rattle.mq_law_rows.specs.from_history.{ManagerPlaces, Scenario}
use Rattle.mq_calls.specs.State.{Plain, Queue, Which, fresh_queue}
use Rattle.mq_calls.specs.State.Change.{Leave, Hold, Release}
use Rattle.mq_calls.specs.State.Change.{Place as Places}
use Rattle.mq_calls.specs.Reads.{stored, queue_in, is_persistent, sender_data, in_doubt_of, batch_of}
use Rattle.mq_calls.specs.Changes.{lane_of, new_row, set_queue, placed_in, kept_in, held_in, released_in, selects, retag_if, release_if, apply}
use Rattle.mq_law_rows.specs.from_spec_network.Ledger as ledgers
use Rattle.mq_law_rows.specs.from_spec_network.Ledger.{Ledger, nobody, places_or, places_at, change_at, put_on, put_in, leave_queues, is_one_of, take_from, take_everywhere, lose, rows_in, ledger_rows}
use Rattle.mq_law_rows.specs.from_spec_network.Standing.{row_told, rows_told, is_doubted, counts_there, is_held_there, standing_in, standing_of, last_unit, cable_from}
use Rattle.mq_law_rows.specs.from_spec_network.Standing as standings
use Rattle.mq_law_rows.specs.Families.{put_at}
use Rattle.mq_law_rows.specs.World.{is_last, away, stands, row_stands, standing}
use Rattle.mq_law_rows.specs.Kinds.{is_told_row, is_lost, among}
use Rattle.mq_law_seen.specs.Seen.{rows_of, held_unit, holds_of, doubt_of, last_of, world_of}
use Rattle.mq_law_rows.proofs.Lists.{true_false, bool_case, is_false, eqb_yes, eqb_self, name_yes, name_self, keep_same, keep_all}

-- Lists by name

pub name_back : (a b : List ℕ) → bytes_eq a b ≡ bytes_eq b a
name_back a b = bool_case (bytes_eq a b) (λ t. t ≡ bytes_eq b a) (λ e. sym (ap (λ z. bytes_eq b z) (name_yes a b e) ∙ name_self b))
    (λ e. sym (is_false (bytes_eq b a) (λ t. true_false (sym (ap (λ z. bytes_eq a z) (name_yes b a t) ∙ name_self a) ∙ e))))

pub queue_named : (d : List ℕ) (qs : List Queue) → (queue_in d qs).name ≡ d
queue_named d [] = refl
queue_named d (q ∷ qs) = bool_case (bytes_eq d q.name) (λ t. (if t then q else queue_in d qs).name ≡ d) (λ e. sym (name_yes d q.name e)) (λ e. queue_named d qs)

pub queue_set : (d : List ℕ) (new : Queue) (qs : List Queue) → queue_in d (set_queue new qs) ≡ (if bytes_eq d new.name then new else queue_in d qs)
queue_set d new [] = refl
queue_set d new (q ∷ qs) =
    bool_case (bytes_eq new.name q.name) (λ t. queue_in d (if t then new ∷ qs else q ∷ set_queue new qs) ≡ (if bytes_eq d new.name then new else (if bytes_eq d q.name then q else queue_in d qs)))
    (λ e. let n : new.name ≡ q.name = name_yes new.name q.name e in
    bool_case (bytes_eq d new.name) (λ t. bytes_eq d new.name ≡ t → (if t then new else queue_in d qs) ≡ (if t then new else (if bytes_eq d q.name then q else queue_in d qs)))
    (λ f g. refl) (λ f g. sym (ap (λ t. if t then q else queue_in d qs) (ap (λ z. bytes_eq d z) (sym n) ∙ g))) refl)
    (λ e. bool_case (bytes_eq d q.name) (λ t. bytes_eq d q.name ≡ t → (if t then q else queue_in d (set_queue new qs)) ≡ (if bytes_eq d new.name then new else (if t then q else queue_in d qs)))
    (λ f g. sym (ap (λ t. if t then new else q) (is_false (bytes_eq d new.name) (λ h. true_false (sym (ap (λ z. bytes_eq z q.name) (sym (name_yes d new.name h)) ∙ g) ∙ e)))))
    (λ f g. queue_set d new qs) refl)

-- a message that is placed
pub placed_rows : (d name : List ℕ) (m : Message) (p : Plain)
    → (stored d (apply (Places name m) p)).rows ≡ (if bytes_eq d name then insert_row (new_row (lane_of (local_of name p.definitions) m.md.priority) ((stored name p).arrivals + 1) m) (stored name p).rows else (stored d p).rows)
placed_rows d name m p =
    let lane = lane_of (local_of name p.definitions) m.md.priority in
    ap (λ (q : Queue). q.rows) (queue_set d (placed_in lane m (stored name p)) p.queues)
    ∙ ap (λ z. (if bytes_eq d z then placed_in lane m (stored name p) else queue_in d p.queues).rows) (queue_named name p.queues)
    ∙ bool_case (bytes_eq d name) (λ t. (if t then placed_in lane m (stored name p) else queue_in d p.queues).rows ≡ (if t then insert_row (new_row lane ((stored name p).arrivals + 1) m) (stored name p).rows else (stored d p).rows)) (λ e. refl) (λ e. refl)

-- queues that are changed one by one
mapped : (f : Queue → Queue) → ((q : Queue) → (f q).name ≡ q.name) → (d : List ℕ) (qs : List Queue) → (f (fresh_queue d)).rows ≡ [] → (queue_in d (map f qs)).rows ≡ (f (queue_in d qs)).rows
mapped f same d [] none = sym none
mapped f same d (q ∷ qs) none =
    ap (λ z. (if bytes_eq d z then f q else queue_in d (map f qs)).rows) (same q)
    ∙ bool_case (bytes_eq d q.name) (λ t. (if t then f q else queue_in d (map f qs)).rows ≡ (f (if t then q else queue_in d qs)).rows) (λ e. refl) (λ e. mapped f same d qs none)

pub left_rows : (which : Which) (d : List ℕ) (p : Plain) → (stored d (apply (Leave which) p)).rows ≡ keep (λ row. not (selects which d row)) (stored d p).rows
left_rows which d p = mapped (kept_in which) (λ q. refl) d p.queues refl ∙ ap (λ z. keep (λ row. not (selects which z row)) (stored d p).rows) (queue_named d p.queues)

pub held_rows : (which : Which) (by_ : Holder) (d : List ℕ) (p : Plain) → (stored d (apply (Hold which by_) p)).rows ≡ retag (λ row. retag_if (selects which d row && is_free row) (Some by_) row) (stored d p).rows
held_rows which by_ d p = mapped (held_in which by_) (λ q. refl) d p.queues refl ∙ ap (λ z. retag (λ row. retag_if (selects which z row && is_free row) (Some by_) row) (stored d p).rows) (queue_named d p.queues)

pub released_rows : (which : Which) (back : Bool) (d : List ℕ) (p : Plain) → (stored d (apply (Release which back) p)).rows ≡ retag (λ row. release_if (selects which d row && not (is_free row)) back row) (stored d p).rows
released_rows which back d p = mapped (released_in which back) (λ q. refl) d p.queues refl ∙ ap (λ z. retag (λ row. release_if (selects which z row && not (is_free row)) back row) (stored d p).rows) (queue_named d p.queues)

-- The ledger's lists

book_put : (d name : List ℕ) (lane : ℕ) (m : Message) (qs : List Shelf) → rows_in d (put_in name lane m qs) ≡ (if bytes_eq d name then insert_row (new_row lane 0 m) (rows_in name qs) else rows_in d qs)
book_put d name lane m [] = refl
book_put d name lane m (q ∷ qs) =
    bool_case (bytes_eq name q.name) (λ t. bytes_eq name q.name ≡ t → rows_in d (if t then put_on lane m q ∷ qs else q ∷ put_in name lane m qs)
    ≡ (if bytes_eq d name then insert_row (new_row lane 0 m) (if t then q.rows else rows_in name qs) else (if bytes_eq d q.name then q.rows else rows_in d qs)))
    (λ e f. let n : name ≡ q.name = name_yes name q.name f in
    ap (λ z. if bytes_eq d z then (put_on lane m q).rows else rows_in d qs) (sym n)
    ∙ bool_case (bytes_eq d name) (λ t. bytes_eq d name ≡ t → (if t then (put_on lane m q).rows else rows_in d qs) ≡ (if t then insert_row (new_row lane 0 m) q.rows else (if bytes_eq d q.name then q.rows else rows_in d qs)))
    (λ g h. refl) (λ g h. sym (ap (λ t. if t then q.rows else rows_in d qs) (ap (λ z. bytes_eq d z) (sym n) ∙ h))) refl)
    (λ e f. bool_case (bytes_eq d q.name) (λ t. bytes_eq d q.name ≡ t → (if t then q.rows else rows_in d (put_in name lane m qs)) ≡ (if bytes_eq d name then insert_row (new_row lane 0 m) (rows_in name qs) else (if t then q.rows else rows_in d qs)))
    (λ g h. sym (ap (λ t. if t then insert_row (new_row lane 0 m) (rows_in name qs) else q.rows) (is_false (bytes_eq d name) (λ k. true_false (sym (ap (λ z. bytes_eq z q.name) (sym (name_yes d name k)) ∙ h) ∙ f)))))
    (λ g h. book_put d name lane m qs) refl) refl

book_left : (stays : Row → Bool) (d : List ℕ) (qs : List Shelf) → rows_in d (leave_queues stays qs) ≡ keep stays (rows_in d qs)
book_left stays d [] = refl
book_left stays d (q ∷ qs) = bool_case (bytes_eq d q.name) (λ t. (if t then keep stays q.rows else rows_in d (leave_queues stays qs)) ≡ keep stays (if t then q.rows else rows_in d qs)) (λ e. refl) (λ e. book_left stays d qs)

-- one manager of a list
abbrev pub mapped_if : {A : Type 0} → Bool → (A → A) → Option A → Option A
mapped_if t f None = None
mapped_if true f (Some x) = Some (f x)
mapped_if false f (Some x) = Some x

pub get_changed : {A : Type 0} (m : ℕ) (f : A → A) (xs : List A) (a : ℕ) → slice_get (change_at m f xs) a ≡ mapped_if (a == m) f (slice_get xs a)
get_changed m f [] a = refl
get_changed zero f (x ∷ xs) zero = refl
get_changed zero f (x ∷ xs) (suc a) = same_option f (slice_get xs a) ∙ ap (λ t. mapped_if t f (slice_get xs a)) (zero_suc a)
  where
    same_option : {A : Type 0} (f : A → A) (o : Option A) → o ≡ mapped_if false f o
    same_option f None = refl
    same_option f (Some x) = refl

    zero_suc : (a : ℕ) → false ≡ (suc a == zero)
    zero_suc a = grind (arith, nat_tests)
get_changed (suc m) f (x ∷ xs) zero = ap (λ t. mapped_if t f (Some x)) (suc_zero m)
  where
    suc_zero : (m : ℕ) → false ≡ (zero == suc m)
    suc_zero m = grind (arith, nat_tests)
get_changed (suc m) f (x ∷ xs) (suc a) = get_changed m f xs a ∙ ap (λ t. mapped_if t f (slice_get xs a)) (suc_same a m)
  where
    suc_same : (a m : ℕ) → (a == m) ≡ (suc a == suc m)
    suc_same a m = grind (arith, nat_tests)

-- The ledger's steps

-- a manager of the ledger, after a change of one
at_changed : (m : ℕ) (f : ManagerPlaces → ManagerPlaces) (a : ℕ) (l : Ledger) → places_at a (ledgers.with_places m f l) ≡ places_or (mapped_if (a == m) f (slice_get l.places a))
at_changed m f a l = ap places_or (get_changed m f l.places a)

rows_changed : (m : ℕ) (f : ManagerPlaces → ManagerPlaces) (g : ℕ → List ℕ → List Row → List Row) → ((d : List ℕ) (p : ManagerPlaces) → rows_in d (f p).queues ≡ g m d (rows_in d p.queues)) → ((d : List ℕ) → g m d [] ≡ [])
    → ((a : ℕ) (d : List ℕ) (xs : List Row) → (a == m) ≡ false → g a d xs ≡ xs) → (a : ℕ) (d : List ℕ) (l : Ledger) → ledger_rows a d (ledgers.with_places m f l) ≡ g a d (ledger_rows a d l)
rows_changed m f g step none other a d l = ap (λ (p : ManagerPlaces). rows_in d p.queues) (at_changed m f a l) ∙ go (slice_get l.places a) (a == m) refl
  where
    go : (o : Option ManagerPlaces) (t : Bool) → (a == m) ≡ t → rows_in d (places_or (mapped_if t f o)).queues ≡ g a d (rows_in d (places_or o).queues)
    go None true e = sym (ap (λ z. g z d []) (eqb_yes a m e) ∙ none d)
    go None false e = sym (other a d [] e)
    go (Some p) true e = step d p ∙ ap (λ z. g z d (rows_in d p.queues)) (sym (eqb_yes a m e))
    go (Some p) false e = sym (other a d (rows_in d p.queues) e)

pub takes_from : (m : ℕ) (i : Ident) (a : ℕ) (d : List ℕ) (l : Ledger) → ledger_rows a d (take_from m i l) ≡ keep (λ r. not (is_told_row m i a r)) (ledger_rows a d l)
takes_from m i a d l = rows_changed m (λ p. record p { queues = leave_queues (λ (row : Row). not (has_ident i row)) p.queues }) (λ a d xs. keep (λ r. not (is_told_row m i a r)) xs)
    (λ d p. book_left (λ row. not (has_ident i row)) d p.queues ∙ ap (λ t. keep (λ r. not (t && same_ident r.message.ident i)) (rows_in d p.queues)) (sym (eqb_self m)))
    (λ d. refl) (λ a d xs e. ap (λ t. keep (λ r. not (t && same_ident r.message.ident i)) xs) e ∙ keep_all (λ r. true) xs (λ r n. refl)) a d l

pub loses_rows : (m : ℕ) (a : ℕ) (d : List ℕ) (l : Ledger) → ledger_rows a d (lose m l) ≡ keep (λ r. not (is_lost m a r)) (ledger_rows a d l)
loses_rows m a d l = rows_changed m (λ p. record p { queues = leave_queues (λ (row : Row). is_persistent row.message) p.queues }) (λ a d xs. keep (λ r. not (is_lost m a r)) xs)
    (λ d p. book_left (λ row. is_persistent row.message) d p.queues
    ∙ keep_same (λ row. is_persistent row.message) (λ r. not (is_lost m m r)) (rows_in d p.queues) (λ r n. sym (ap (λ t. not (t && not (is_persistent r.message))) (eqb_self m) ∙ not_not (is_persistent r.message))))
    (λ d. refl) (λ a d xs e. ap (λ t. keep (λ r. not (t && not (is_persistent r.message))) xs) e ∙ keep_all (λ r. true) xs (λ r n. refl)) a d l
  where
    not_not : (t : Bool) → not (not t) ≡ t
    not_not true = refl
    not_not false = refl

pub takes_everywhere : (is : List Ident) (a : ℕ) (d : List ℕ) (l : Ledger) → ledger_rows a d (take_everywhere is l) ≡ keep (λ r. not (among is r.message.ident)) (ledger_rows a d l)
takes_everywhere is a d l = go l.places a
  where
    go : (ps : List ManagerPlaces) (a : ℕ) → rows_in d (places_or (slice_get (map (λ (p : ManagerPlaces). record p { queues = leave_queues (λ (row : Row). not (is_one_of is row)) p.queues }) ps) a)).queues ≡ keep (λ r. not (among is r.message.ident)) (rows_in d (places_or (slice_get ps a)).queues)
    go [] a = refl
    go (p ∷ ps) zero = book_left (λ row. not (is_one_of is row)) d p.queues
    go (p ∷ ps) (suc a) = go ps a

-- to place, at a manager that the ledger has
pub places_rows : (m : ℕ) (name : List ℕ) (message : Message) (p : ManagerPlaces) (a : ℕ) (d : List ℕ) (l : Ledger) → slice_get l.places m ≡ Some p
    → ledger_rows a d (ledgers.place m name message l)
    ≡ put_at (λ a d. ledger_rows a d l) m name (insert_row (new_row (lane_of (local_of name p.definitions) message.md.priority) 0 message) (ledger_rows m name l)) a d
places_rows m name message p a d l is = ap (λ (p : ManagerPlaces). rows_in d p.queues) (at_changed m (ledgers.place_at name message) a l) ∙ go (a == m) refl
  where
    lane : ℕ
    lane = lane_of (local_of name p.definitions) message.md.priority

    here : rows_in name p.queues ≡ ledger_rows m name l
    here = sym (ap (λ o. rows_in name (places_or o).queues) is)

    there : rows_in d p.queues ≡ ledger_rows m d l
    there = sym (ap (λ o. rows_in d (places_or o).queues) is)

    none_if : (o : Option ManagerPlaces) → mapped_if false (ledgers.place_at name message) o ≡ o
    none_if None = refl
    none_if (Some x) = refl

    go : (t : Bool) → (a == m) ≡ t → rows_in d (places_or (mapped_if t (ledgers.place_at name message) (slice_get l.places a))).queues
        ≡ (if t && bytes_eq d name then insert_row (new_row lane 0 message) (ledger_rows m name l) else ledger_rows a d l)
    go false e = ap (λ o. rows_in d (places_or o).queues) (none_if (slice_get l.places a))
    go true e =
        let am : a ≡ m = eqb_yes a m e in
        ap (λ o. rows_in d (places_or (mapped_if true (ledgers.place_at name message) o)).queues) (ap (slice_get l.places) am ∙ is)
        ∙ book_put d name lane message p.queues
        ∙ (λ i. if bytes_eq d name then insert_row (new_row lane 0 message) (here i) else there i)
        ∙ ap (λ z. if bytes_eq d name then insert_row (new_row lane 0 message) (ledger_rows m name l) else ledger_rows z d l) (sym am)

-- What stands is what the laws see to stand.
away_is : (o : Option InDoubt) (b : Option Batch) (u : Luw) → is_doubted o u ≡ (is_some o && is_last (held_unit o b) u)
away_is None b u = refl
away_is (Some d) b u = refl

held_away : (s : Scenario) (ps : List Plain) (p : Plain) (x : Option Holder) (f : List ℕ → Bool) → ((c : List ℕ) → counts_there s ps p c ≡ f c) → not (is_held_there s ps p x) ≡ stands f x
held_away s ps p None f same = refl
held_away s ps p (Some (holders.Unit k)) f same = refl
held_away s ps p (Some (holders.Batch c)) f same = ap not (same c)

abbrev pub law_away : Scenario → List Plain → List ℕ → Option Plain → Bool
law_away s ps c o = doubt_of c o && is_last (holds_of c o) (last_of s ps c o)

pub standing_is : (s : Scenario) (given : Ident → Bool) (ps : List Plain) (m : ℕ) (q : List ℕ) → standings.standing s ps m q ≡ standing (world_of s given ps) m q
standing_is s given ps m q = go (slice_get ps m) refl
  where
    go : (o : Option Plain) → slice_get ps m ≡ o → standing_of s ps q o ≡ keep (row_stands (away (world_of s given ps) m)) (rows_of q o)
    go None e = refl
    go (Some p) e = keep_same _ _ (stored q p).rows (λ row n. held_away s ps p row.by (away (world_of s given ps) m)
        (λ c. away_is (in_doubt_of (sender_data c p)) (batch_of c p.channels.batches) (last_unit ps c (cable_from p.given.number c s.cables))
        ∙ sym (ap (λ o. law_away s ps c o) e)))
