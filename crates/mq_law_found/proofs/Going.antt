-- Rows that go, whose write was stopped and is found: expired ones, those that a rule discards, and the row of a get outside a unit.
use Rattle.std.proofs.Common.{ℕ, zero, suc, ◌≡◌, Bool, true, false, not, List, [], ◌∷◌, ◌++◌, refl, ap, sym, subst, ◌∙◌, inl, inr, map}
use Rattle.std.specs.Prelude.{Some, None, if◌then◌else◌, ◌&&◌, ◌||◌, filter, flat_map, slice_get}
use Rattle.std.specs.List.{list_any}
use Rattle.std.specs.Str.{bytes_eq}
use Rattle.mq_message.specs.declared.message.Ident.{Ident}
use Rattle.mq_queue.specs.declared.row.Row.{Row}
use Rattle.mq_queue.specs.Rows.{same_ident, has_ident, keep}
use Rattle.mq_disk.specs.declared.cutter.Stop.{Stop}
use Rattle.mq_calls.specs.declared.deltas.Did.{Did}
use Rattle.mq_calls.specs.declared.deltas.Did.TheVariants as did
use Rattle.mq_calls.specs.declared.deltas.Why.{Why}
use Rattle.mq_calls.specs.declared.deltas.Why.TheVariants as whys
use Rattle.mq_calls.specs.declared.image.Shelf.{Shelf}
use Rattle.mq_calls.specs.declared.records.LogRecord.{LogRecord}
use Rattle.mq_history.specs.declared.calls.Call.{Call}
use Rattle.mq_history.specs.declared.calls.Reply.TheVariants as replies
use Rattle.mq_history.specs.declared.story.ManagerPlaces.{ManagerPlaces}
use Rattle.mq_calls.specs.State.{Plain, Queue, Noted}
use Rattle.mq_calls.specs.State.Change.{Leave}
use Rattle.mq_calls.specs.State.Which.{Among, Nonpersistent}
use Rattle.mq_calls.specs.Reads.{stored, queue_in, stands, is_persistent}
use Rattle.mq_calls.specs.Changes.{apply, kept_in}
use Rattle.mq_calls.specs.Steps.{Part, do_part, volatile_gone, stands_in}
use Rattle.mq_spec_manager.specs.Get.{idents_of, persistent_rows, removal_part, removal_record}
use Rattle.mq_spec_manager.specs.Stops.{redone, lasts}
use Rattle.mq_spec_network.specs.Ledger as ledgers
use Rattle.mq_spec_network.specs.Ledger.{Ledger, at_moment, change_at, is_placed_at, is_taken, leave_queues, places_at, places_or, post_call, take, take_all_gone, take_if, users_at}
use Rattle.mq_spec_network.specs.Order.{unit_received}
use Rattle.mq_spec_network.specs.Story.{Mem}
use Rattle.mq_law_events.specs.from_law_rows.World.{ident_of}
use Rattle.mq_law_events.proofs.from_law_rows.Lists.{bool_case, is_false, true_false, ident_yes, same_self, name_self, keep_same, mem_keep, mem_kept}
use Rattle.mq_law_events.proofs.from_law_seen.Bridges.{name_back}
use Rattle.mq_law_manager.specs.Facts.{AreNamed, Differ, IsSound}
use Rattle.mq_law_manager.proofs.Lists.{one_row}
use Rattle.mq_law_manager.proofs.QueueNames.{mapped_named}
use Rattle.mq_law_manager.proofs.Removals.{mem_filter, differ_filter}
use Rattle.mq_law_manager.proofs.Untouched.{part_given}
use Rattle.mq_law_events.specs.Tied.{Follow}
use Rattle.mq_law_events.proofs.Putting.{rows_after}
use Rattle.mq_law_events.proofs.Taking.{removed_all, many_follow, got_follows}
use Rattle.mq_law_found.specs.Finds.{since, posted_again, stopped_call, PartNotes}
use Rattle.mq_law_events.proofs.Events.{from_log}
use Rattle.mq_law_found.proofs.Finding.{told_since, told_then, in_moment, moments_back}
use Rattle.mq_law_found.proofs.Again.{steady_lasts, rises}

-- Which idents stand

any_there : {A : Type 0} (test : A → Bool) (xs : List A) → list_any test xs ≡ true → (x : A) × Mem x xs × (test x ≡ true)
any_there test [] e = absurd (true_false (sym e))
any_there {A} test (x ∷ xs) e = bool_case (test x) (λ t. test x ≡ t → (t || list_any test xs) ≡ true → (y : A) × Mem y (x ∷ xs) × (test y ≡ true))
    (λ z w f. (x, inl refl, w)) (λ z w f. let k = any_there test xs f in (k.0, inr k.1, k.2)) refl e

any_of : {A : Type 0} (test : A → Bool) (xs : List A) (x : A) → Mem x xs → test x ≡ true → list_any test xs ≡ true
any_of test [] x n e = absurd n
any_of test (y ∷ ys) x (inl z) e = ap (λ b. b || list_any test ys) (ap test (sym z) ∙ e)
any_of test (y ∷ ys) x (inr n) e = ap (λ b. test y || b) (any_of test ys x n e) ∙ or_true (test y)
  where
    or_true : (t : Bool) → (t || true) ≡ true
    or_true true = refl
    or_true false = refl

stored_one : (q : Queue) (qs : List Queue) → Mem q qs → AreNamed qs → queue_in q.name qs ≡ q
stored_one q [] n c = absurd n
stored_one q (t ∷ qs) (inl e) c = subst (λ (z : Queue). queue_in z.name (t ∷ qs) ≡ z) (sym e) (ap (λ b. if b then t else queue_in t.name qs) (name_self t.name))
stored_one q (t ∷ qs) (inr n) c = ap (λ b. if b then t else queue_in q.name qs) (name_back q.name t.name ∙ c.0 q n) ∙ stored_one q qs n c.1

-- a row of that ident, on a queue by its name
stands_row : (i : Ident) (p : Plain) → AreNamed p.queues → stands i p ≡ true → (d : List ℕ) × (x : Row) × Mem x (stored d p).rows × (x.message.ident ≡ i)
stands_row i p named e =
    let q = any_there (λ (q : Queue). list_any (has_ident i) q.rows) p.queues e in
    let x = any_there (has_ident i) q.0.rows q.2 in
    (q.0.name, x.0, subst (λ (z : Queue). Mem x.0 z.rows) (sym (stored_one q.0 p.queues q.1 named)) x.1, ident_yes x.0.message.ident i x.2)

row_stands : (d : List ℕ) (qs : List Queue) (x : Row) → Mem x (queue_in d qs).rows → list_any (λ (q : Queue). list_any (has_ident x.message.ident) q.rows) qs ≡ true
row_stands d [] x n = absurd n
row_stands d (q ∷ qs) x n = bool_case (bytes_eq d q.name) (λ t. Mem x (if t then q else queue_in d qs).rows → (list_any (has_ident x.message.ident) q.rows || list_any (λ (q : Queue). list_any (has_ident x.message.ident) q.rows) qs) ≡ true)
    (λ z k. ap (λ b. b || list_any (λ (q : Queue). list_any (has_ident x.message.ident) q.rows) qs) (any_of (has_ident x.message.ident) q.rows x k (same_self x.message.ident)))
    (λ z k. ap (λ b. list_any (has_ident x.message.ident) q.rows || b) (row_stands d qs x k) ∙ or_true (list_any (has_ident x.message.ident) q.rows)) n
  where
    or_true : (t : Bool) → (t || true) ≡ true
    or_true true = refl
    or_true false = refl

-- what is left of a manager is of it, and what lasts is left
pub left_row : (p : Plain) (d : List ℕ) (x : Row) → Mem x (stored d (volatile_gone p)).rows → Mem x (stored d p).rows
left_row p d x n = (mem_keep _ x (stored d p).rows (subst (λ (rows : List Row). Mem x rows) (rows_after (Leave Nonpersistent) p d tt) n)).0

pub lasting_row : (p : Plain) (d : List ℕ) (x : Row) → Mem x (stored d p).rows → is_persistent x.message ≡ true → Mem x (stored d (volatile_gone p)).rows
lasting_row p d x n e = subst (λ (rows : List Row). Mem x rows) (sym (rows_after (Leave Nonpersistent) p d tt)) (mem_kept _ x (stored d p).rows n (ap (λ b. not (not b)) e))

named_left : (p : Plain) → AreNamed p.queues → AreNamed (volatile_gone p).queues
named_left p h = mapped_named (kept_in Nonpersistent) (λ q. refl) p.queues h

-- a row of a sound manager whose ident stands in what is left of it stands there
left_there : (p : Plain) (q : List ℕ) (x : Row) → IsSound p → Mem x (stored q p).rows → stands x.message.ident (volatile_gone p) ≡ true → Mem x (stored q (volatile_gone p)).rows
left_there p q x h n e =
    let k = stands_row x.message.ident (volatile_gone p) (named_left p h.named) e in
    let was : Mem k.1 (stored k.0 p).rows = left_row p k.0 k.1 k.2 in
    let at : q ≡ k.0 = h.facts.apart.alone q k.0 x k.1 n was (sym k.3) in
    let there : Mem k.1 (stored q p).rows = subst (λ d. Mem k.1 (stored d p).rows) (sym at) was in
    subst (λ (y : Row). Mem y (stored q (volatile_gone p)).rows) (one_row (stored q p).rows k.1 x (h.facts.apart.once q) there n k.3) (subst (λ d. Mem k.1 (stored d (volatile_gone p)).rows) (sym at) k.2)

-- Those of some rows that stand still

abbrev still : Plain → List Row → List Row
still p xs = filter (λ (x : Row). stands x.message.ident p) xs

filtered : (f : Did → Bool) (g : Row → Did) (xs : List Row) → filter f (map g xs) ≡ map g (filter (λ x. f (g x)) xs)
filtered f g [] = refl
filtered f g (x ∷ xs) = bool_case (f (g x)) (λ t. (if t then g x ∷ filter f (map g xs) else filter f (map g xs)) ≡ map g (if t then x ∷ filter (λ x. f (g x)) xs else filter (λ x. f (g x)) xs))
    (λ e. ap (λ ds. g x ∷ ds) (filtered f g xs)) (λ e. filtered f g xs)

among_still : (i : Ident) (p : Plain) (xs : List Row) → stands i p ≡ true → list_any (same_ident i) (idents_of xs) ≡ list_any (same_ident i) (idents_of (still p xs))
among_still i p [] e = refl
among_still i p (x ∷ xs) e = bool_case (stands x.message.ident p)
    (λ t. stands x.message.ident p ≡ t → (same_ident i x.message.ident || list_any (same_ident i) (idents_of xs)) ≡ list_any (same_ident i) (idents_of (if t then x ∷ still p xs else still p xs)))
    (λ z w. ap (λ b. same_ident i x.message.ident || b) (among_still i p xs e))
    (λ z w. ap (λ b. b || list_any (same_ident i) (idents_of xs)) (is_false (same_ident i x.message.ident) (λ k. true_false (sym e ∙ ap (λ j. stands j p) (ident_yes i x.message.ident k) ∙ w))) ∙ among_still i p xs e)
    refl

mapped_same : (f g : Queue → Queue) (qs : List Queue) → ((q : Queue) → Mem q qs → f q ≡ g q) → map f qs ≡ map g qs
mapped_same f g [] same = refl
mapped_same f g (q ∷ qs) same = λ i. same q (inl refl) i ∷ mapped_same f g qs (λ x n. same x (inr n)) i

same_left : (p : Plain) (q : List ℕ) (xs : List Row) → apply (Leave (Among q (idents_of (still p xs)))) p ≡ apply (Leave (Among q (idents_of xs))) p
same_left p q xs = ap (λ (qs : List Queue). record p { queues = qs }) (mapped_same (kept_in (Among q (idents_of (still p xs)))) (kept_in (Among q (idents_of xs))) p.queues
    (λ d n. ap (λ (rows : List Row). record d { rows = rows }) (keep_same _ _ d.rows (λ y k.
    ap (λ b. not (bytes_eq d.name q && b)) (sym (among_still y.message.ident p xs (any_of (λ (q : Queue). list_any (has_ident y.message.ident) q.rows) p.queues d n (any_of (has_ident y.message.ident) d.rows y k (same_self y.message.ident)))))))))

-- What the ledger took it does not take again

any_append : {A : Type 0} (test : A → Bool) (xs ys : List A) → list_any test (xs ++ ys) ≡ (list_any test xs || list_any test ys)
any_append test [] ys = refl
any_append test (x ∷ xs) ys = ap (λ b. test x || b) (any_append test xs ys) ∙ or_or (test x) (list_any test xs) (list_any test ys)
  where
    or_or : (a b c : Bool) → (a || (b || c)) ≡ ((a || b) || c)
    or_or true b c = refl
    or_or false b c = refl

either_none : (a b : Bool) → (a || b) ≡ false → (a ≡ false) × (b ≡ false)
either_none true b e = absurd (true_false e)
either_none false b e = (refl, e)

abbrev row_idents : List Row → List Ident
row_idents rows = map (λ (row : Row). row.message.ident) rows

abbrev shelf_idents : List Shelf → List Ident
shelf_idents qs = flat_map (λ (q : Shelf). row_idents q.rows) qs

none_row : (i : Ident) (rows : List Row) → list_any (same_ident i) (row_idents (keep (λ (row : Row). not (has_ident i row)) rows)) ≡ false
none_row i [] = refl
none_row i (row ∷ rows) = bool_case (same_ident row.message.ident i)
    (λ t. same_ident row.message.ident i ≡ t → list_any (same_ident i) (row_idents (if not t then row ∷ keep (λ (row : Row). not (has_ident i row)) rows else keep (λ (row : Row). not (has_ident i row)) rows)) ≡ false)
    (λ z w. none_row i rows)
    (λ z w. ap (λ b. b || list_any (same_ident i) (row_idents (keep (λ (row : Row). not (has_ident i row)) rows))) (is_false (same_ident i row.message.ident) (λ k. true_false (sym (ap (λ j. same_ident j i) (sym (ident_yes i row.message.ident k)) ∙ same_self i) ∙ w))) ∙ none_row i rows)
    refl

none_shelf : (i : Ident) (qs : List Shelf) → list_any (same_ident i) (shelf_idents (leave_queues (λ (row : Row). not (has_ident i row)) qs)) ≡ false
none_shelf i [] = refl
none_shelf i (q ∷ qs) =
    let rows : List Ident = row_idents (keep (λ (row : Row). not (has_ident i row)) q.rows) in
    let rest : List Ident = shelf_idents (leave_queues (λ (row : Row). not (has_ident i row)) qs) in
    any_append (same_ident i) rows rest ∙ ap (λ b. b || list_any (same_ident i) rest) (none_row i q.rows) ∙ none_shelf i qs

fewer_rows : (i : Ident) (stays : Row → Bool) (rows : List Row) → list_any (same_ident i) (row_idents rows) ≡ false → list_any (same_ident i) (row_idents (keep stays rows)) ≡ false
fewer_rows i stays [] e = refl
fewer_rows i stays (row ∷ rows) e =
    let k = either_none (same_ident i row.message.ident) (list_any (same_ident i) (row_idents rows)) e in
    bool_case (stays row) (λ t. list_any (same_ident i) (row_idents (if t then row ∷ keep stays rows else keep stays rows)) ≡ false)
    (λ z. ap (λ b. b || list_any (same_ident i) (row_idents (keep stays rows))) k.0 ∙ fewer_rows i stays rows k.1) (λ z. fewer_rows i stays rows k.1)

fewer_shelves : (i : Ident) (stays : Row → Bool) (qs : List Shelf) → list_any (same_ident i) (shelf_idents qs) ≡ false → list_any (same_ident i) (shelf_idents (leave_queues stays qs)) ≡ false
fewer_shelves i stays [] e = refl
fewer_shelves i stays (q ∷ qs) e =
    let k = either_none (list_any (same_ident i) (row_idents q.rows)) (list_any (same_ident i) (shelf_idents qs)) (sym (any_append (same_ident i) (row_idents q.rows) (shelf_idents qs)) ∙ e) in
    let rest : List Ident = shelf_idents (leave_queues stays qs) in
    any_append (same_ident i) (row_idents (keep stays q.rows)) rest ∙ ap (λ b. b || list_any (same_ident i) rest) (fewer_rows i stays q.rows k.0) ∙ fewer_shelves i stays qs k.1

changed_at : (i : Ident) (m : ℕ) (f : ManagerPlaces → ManagerPlaces) (ps : List ManagerPlaces) → is_placed_at i (places_or (slice_get ps m)) ≡ false → ((x : ManagerPlaces) → is_placed_at i x ≡ false → is_placed_at i (f x) ≡ false)
    → is_placed_at i (places_or (slice_get (change_at m f ps) m)) ≡ false
changed_at i m f [] e k = e
changed_at i zero f (x ∷ ps) e k = k x e
changed_at i (suc m) f (x ∷ ps) e k = changed_at i m f ps e k

taken_at : (i : Ident) (m : ℕ) (f : ManagerPlaces → ManagerPlaces) (ps : List ManagerPlaces) → ((x : ManagerPlaces) → is_placed_at i (f x) ≡ false) → is_placed_at i (places_or (slice_get (change_at m f ps) m)) ≡ false
taken_at i m f [] k = refl
taken_at i zero f (x ∷ ps) k = k x
taken_at i (suc m) f (x ∷ ps) k = taken_at i m f ps k

take_takes : (t : Bool) (m : ℕ) (i : Ident) (l : Ledger) → is_placed_at i (places_at m l) ≡ t → is_placed_at i (places_at m (take_if t m i l)) ≡ false
take_takes true m i l e = taken_at i m (λ (p : ManagerPlaces). record p { queues = leave_queues (λ (row : Row). not (has_ident i row)) p.queues }) l.places (λ x. none_shelf i x.queues)
take_takes false m i l e = e

take_leaves : (t : Bool) (m : ℕ) (i j : Ident) (l : Ledger) → is_placed_at i (places_at m l) ≡ false → is_placed_at i (places_at m (take_if t m j l)) ≡ false
take_leaves true m i j l e = changed_at i m (λ (p : ManagerPlaces). record p { queues = leave_queues (λ (row : Row). not (has_ident j row)) p.queues }) l.places e (λ x k. fewer_shelves i (λ (row : Row). not (has_ident j row)) x.queues k)
take_leaves false m i j l e = e

all_leave : (m : ℕ) (why : Why) (q : List ℕ) (ys : List Row) (i : Ident) (l : Ledger) → is_placed_at i (places_at m l) ≡ false → is_placed_at i (places_at m (take_all_gone m (removed_all why q ys) l)) ≡ false
all_leave m why q [] i l e = e
all_leave m why q (y ∷ ys) i l e = all_leave m why q ys i (ledgers.when (is_taken why) (take m y.message.ident) l) (one (is_taken why))
  where
    one : (t : Bool) → is_placed_at i (places_at m (ledgers.when t (take m y.message.ident) l)) ≡ false
    one true = take_leaves (is_placed_at y.message.ident (places_at m l)) m i y.message.ident l e
    one false = e

abbrev AreTaken : ℕ → List Row → Ledger → Type 0
AreTaken m [] l = Unit {0}
AreTaken m (y ∷ ys) l = (is_placed_at y.message.ident (places_at m l) ≡ false) × AreTaken m ys l

all_taken : (m : ℕ) (why : Why) (q : List ℕ) (ys : List Row) (l : Ledger) → is_taken why ≡ true → AreTaken m ys (take_all_gone m (removed_all why q ys) l)
all_taken m why q [] l w = tt
all_taken m why q (y ∷ ys) l w =
    let next : Ledger = ledgers.when (is_taken why) (take m y.message.ident) l in (
      all_leave m why q ys y.message.ident next (subst (λ t. is_placed_at y.message.ident (places_at m (ledgers.when t (take m y.message.ident) l)) ≡ false) (sym w) (take_takes (is_placed_at y.message.ident (places_at m l)) m y.message.ident l refl)),
      all_taken m why q ys next w,
    )

none_more : (m : ℕ) (why : Why) (q : List ℕ) (ys : List Row) (l : Ledger) → AreTaken m ys l → take_all_gone m (removed_all why q ys) l ≡ l
none_more m why q [] l a = refl
none_more m why q (y ∷ ys) l a = ap (take_all_gone m (removed_all why q ys)) (one (is_taken why)) ∙ none_more m why q ys l a.1
  where
    one : (t : Bool) → ledgers.when t (take m y.message.ident) l ≡ l
    one true = ap (λ b. take_if b m y.message.ident l) a.0
    one false = refl

moved_taken : (m t : ℕ) (ys : List Row) (l : Ledger) → AreTaken m ys l → AreTaken m ys (at_moment m t l)
moved_taken m t [] l a = tt
moved_taken m t (y ∷ ys) l a = (a.0, moved_taken m t ys l a.1)

-- The notes

pub record IsGoing (q : List ℕ) (xs : List Row) (p : Plain) : Type 0 where
  pub each : (x : Row) → Mem x xs → Mem x (stored q p).rows × (x.by ≡ None)
  pub once : Differ ident_of xs

removed_quiet : (why : Why) (q : List ℕ) (xs : List Row) → unit_received (removed_all why q xs) ≡ None
removed_quiet why q [] = refl
removed_quiet why q (x ∷ xs) = removed_quiet why q xs

-- a call posts nothing of rows that are removed so
abbrev pub PostsNone : ℕ → Call → Why → List ℕ → Type 0
PostsNone m call why q = (ys : List Row) (l : Ledger) (by : Stop) → post_call m call (replies.Stopped by) [] (removed_all why q ys) l ≡ l

pub removal_noted : (m : ℕ) (call : Call) (moment : ℕ) (p : Plain) (why : Why) (q : List ℕ) (xs : List Row) → IsSound p → IsGoing q xs p → IsSound (do_part (removal_part why q xs) p) → is_taken why ≡ true → PostsNone m call why q
    → PartNotes m call moment p (removal_part why q xs)
removal_noted m call moment p why q xs h going sound taken posts r e chance by_ ds forced =
    let part : Part = removal_part why q xs in
    let n : Noted = record { written = r; changes = part.changes; delta = part.delta } in
    let s : ledgers.Stopped = stopped_call e call chance by_ ds moment in
    let ys : List Row = still (volatile_gone p) xs in
    let told_ : List Did = removed_all why q ys in
    record {
      followed = λ given running now log l fresh told.
          let down : Plain = since (volatile_gone p) running now log in
          let down2 : Plain = since (volatile_gone p) running now (stands_in r log) in
          let end : Ledger = take_all_gone m told_ l in
          let same : ledgers.found m (Some s) told_ end ≡ end =
          ap (λ k. at_moment m (users_at m end).moment k) (posts ys (take_all_gone m told_ (at_moment m moment end)) by_ ∙ none_more m why q ys (at_moment m moment end) (moved_taken m moment ys end (all_taken m why q ys l taken)))
          ∙ moments_back m moment end in
          let first : Follow m given down2 l (apply (Leave (Among q (idents_of ys))) down2) end =
          many_follow m given down2 l q why ys fresh (told_since m down running now (stands_in r log) l told) taken
          (λ y k. let f = mem_filter y (λ (x : Row). stands x.message.ident (volatile_gone p)) xs k in let g = going.each y f.0 in (left_there p q y h g.0 f.1, g.1))
          (differ_filter ident_of (λ (x : Row). stands x.message.ident (volatile_gone p)) xs going.once) in
          subst (λ (ds : List Did). Follow m given down l (redone n down) (posted_again m s ds l)) (sym (filtered (lasts r down) (λ (x : Row). did.Removed q x.message.ident why) xs))
          (subst (λ (k : Ledger). Follow m given down l (redone n down) k) (sym same)
          (from_log m given down (redone n down) (stands_in r log) l end (subst (λ (z : Plain). Follow m given down2 l z end) (same_left down2 q xs) first)));
      sound = rises n p (do_part part p) sound (part_given part p) (λ running now log. steady_lasts part.changes p part.forced running now log h (tt, tt));
      quiet = removed_quiet why q xs;
    }

-- The row that a get outside a unit takes

one_persistent : (q : List ℕ) (x : Row) (r : LogRecord) → removal_record q (persistent_rows (x ∷ [])) ≡ Some r → is_persistent x.message ≡ true
one_persistent q x r = bool_case (is_persistent x.message) (λ t. removal_record q (if t then x ∷ [] else []) ≡ Some r → t ≡ true) (λ z e. refl) (λ z e. absurd cc)

pub got_noted : (m : ℕ) (call : Call) (moment : ℕ) (p : Plain) (q : List ℕ) (x : Row) → IsSound p → Mem x (stored q p).rows → x.by ≡ None → IsSound (do_part (removal_part whys.Got q (x ∷ [])) p)
    → ((l : Ledger) (by : Stop) → post_call m call (replies.Stopped by) [] (did.Removed q x.message.ident whys.Got ∷ []) l ≡ ledgers.take_got m x.message.ident l)
    → PartNotes m call moment p (removal_part whys.Got q (x ∷ []))
got_noted m call moment p q x h there free sound posts r e chance by_ ds forced =
    let part : Part = removal_part whys.Got q (x ∷ []) in
    let n : Noted = record { written = r; changes = part.changes; delta = part.delta } in
    let s : ledgers.Stopped = stopped_call e call chance by_ ds moment in
    let left : Mem x (stored q (volatile_gone p)).rows = lasting_row p q x there (one_persistent q x r forced) in
    record {
      followed = λ given running now log l fresh told.
          let down : Plain = since (volatile_gone p) running now log in
          let down2 : Plain = since (volatile_gone p) running now (stands_in r log) in
          let at_get : Ledger = at_moment m moment l in
          let inner : Follow m given down2 at_get (apply (Leave (Among q (x.message.ident ∷ []))) down2) (ledgers.take_got m x.message.ident at_get) =
          got_follows m given down2 at_get q x fresh (told_then m moment down2 l (told_since m down running now (stands_in r log) l told)) left free in
          subst (λ (t : Bool). Follow m given down l (redone n down) (posted_again m s (if t then did.Removed q x.message.ident whys.Got ∷ [] else []) l)) (sym (row_stands q (volatile_gone p).queues x left))
          (in_moment m moment given down (redone n down) l (post_call m call (replies.Stopped by_) [] (did.Removed q x.message.ident whys.Got ∷ []) at_get) told
          (subst (λ (k : Ledger). Follow m given down at_get (redone n down) k) (sym (posts at_get by_)) (from_log m given down (redone n down) (stands_in r log) at_get (ledgers.take_got m x.message.ident at_get) inner)));
      sound = rises n p (do_part part p) sound (part_given part p) (λ running now log. steady_lasts part.changes p part.forced running now log h (tt, tt));
      quiet = refl;
    }
