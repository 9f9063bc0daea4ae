-- Batches that are held, released, prepared.
use Rattle.std.proofs.Common.{ℕ, ◌≡◌, Bool, true, false, List, [], ◌∷◌, refl, ap, sym, ◌∙◌, subst}
use Rattle.std.specs.Prelude.{Option, Some, None, not, ◌&&◌, ◌||◌, if◌then◌else◌, filter}
use Rattle.std.specs.List.{AllByRecursion}
use Rattle.std.specs.Str.{bytes_eq}
use Rattle.mq_message.specs.declared.place.Holder.{Holder}
use Rattle.mq_message.specs.declared.place.Holder.TheVariants as holders
use Rattle.mq_queue.specs.declared.row.Row.{Row}
use Rattle.mq_queue.specs.Rows.{retag, held_by, is_free}
use Rattle.mq_calls.specs.State.{Plain, Queue}
use Rattle.mq_calls.specs.declared.state.Batch.{Batch}
use Rattle.mq_calls.specs.State.Which.{Among, HeldBy}
use Rattle.mq_calls.specs.State.Change.{Hold, Release, AddBatch, DropBatch}
use Rattle.mq_calls.specs.Reads.{is_persistent, sender_data}
use Rattle.mq_calls.specs.Changes.{apply_all, selects, held_in, released_in, release_if, retag_if, set_named, comes_before}
use Rattle.mq_spec_manager.specs.Agents.{prepared_record, prepared_changes}
use Rattle.mq_sync.specs.Settlement.{sender_or}
use Rattle.mq_calls.specs.Images.{lasting, lasting_row, lasting_rows, shelf_of, shelves_of, has_batch}
use Rattle.mq_calls.specs.declared.image.Shelf.{Shelf}
use Rattle.mq_spec_log.specs.Shelves.{on_all, held_rows, with_sender}
use Rattle.mq_spec_log.specs.Applies.{can_prepare}
use Rattle.mq_law_log.specs.Keeps.{Told, HoldsJust, HoldsNone}
use Rattle.mq_law_log.proofs.Rows.{bool_case, name_is, name_self}
use Rattle.mq_law_log.proofs.Shelves.{shelves_alike, all_of}

pub all_map : {A : Type 0} (P Q : A → Type 0) → ((a : A) → P a → Q a) → (xs : List A) → AllByRecursion P xs → AllByRecursion Q xs
all_map P Q f [] h = tt
all_map P Q f (x ∷ xs) h = (f x h.0, all_map P Q f xs h.1)

-- rows one by one
pub rows_alike_each : (bs cs : List Batch) (f : Row → Row) (rows : List Row) → ((row : Row) → is_persistent (f row).message ≡ is_persistent row.message)
    → AllByRecursion (λ (row : Row). lasting_row bs (f row) ≡ lasting_row cs row) rows → lasting_rows bs (retag f rows) ≡ lasting_rows cs rows
rows_alike_each bs cs f [] stays h = refl
rows_alike_each bs cs f (row ∷ rows) stays h = ap (λ (b : Bool). if b then lasting_row bs (f row) ∷ lasting_rows bs (retag f rows) else lasting_rows bs (retag f rows)) (stays row)
    ∙ bool_case (is_persistent row.message)
    (λ b. (if b then lasting_row bs (f row) ∷ lasting_rows bs (retag f rows) else lasting_rows bs (retag f rows)) ≡ (if b then lasting_row cs row ∷ lasting_rows cs rows else lasting_rows cs rows))
    (λ e. ap (λ (x : Row). x ∷ lasting_rows bs (retag f rows)) h.0 ∙ ap (λ (x : List Row). lasting_row cs row ∷ x) (rows_alike_each bs cs f rows stays h.1))
    (λ e. rows_alike_each bs cs f rows stays h.1)

-- other batches, and another change of what lasts
pub rows_become_each : (bs cs : List Batch) (g : Row → Row) (rows : List Row)
    → AllByRecursion (λ (row : Row). lasting_row bs row ≡ g (lasting_row cs row)) rows → lasting_rows bs rows ≡ retag g (lasting_rows cs rows)
rows_become_each bs cs g [] h = refl
rows_become_each bs cs g (row ∷ rows) h = bool_case (is_persistent row.message)
    (λ b. (if b then lasting_row bs row ∷ lasting_rows bs rows else lasting_rows bs rows) ≡ retag g (if b then lasting_row cs row ∷ lasting_rows cs rows else lasting_rows cs rows))
    (λ e. ap (λ (x : Row). x ∷ lasting_rows bs rows) h.0 ∙ ap (λ (x : List Row). g (lasting_row cs row) ∷ x) (rows_become_each bs cs g rows h.1))
    (λ e. rows_become_each bs cs g rows h.1)

-- Which channels have a batch.
abbrev less_batch : List ℕ → List Batch → List Batch
less_batch channel bs = filter (λ (b : Batch). not (bytes_eq channel b.channel)) bs

gone_itself : (channel : List ℕ) (bs : List Batch) → has_batch channel (less_batch channel bs) ≡ false
gone_itself channel [] = refl
gone_itself channel (b ∷ bs) = bool_case (bytes_eq channel b.channel) (λ x. bytes_eq channel b.channel ≡ x → has_batch channel (if not x then b ∷ less_batch channel bs else less_batch channel bs) ≡ false)
    (λ y e. gone_itself channel bs)
    (λ y e. ap (λ (x : Bool). x || has_batch channel (less_batch channel bs)) e ∙ gone_itself channel bs) refl

gone_other : (channel other : List ℕ) (bs : List Batch) → bytes_eq channel other ≡ false → has_batch other (less_batch channel bs) ≡ has_batch other bs
gone_other channel other [] e = refl
gone_other channel other (b ∷ bs) e = bool_case (bytes_eq channel b.channel) (λ x. bytes_eq channel b.channel ≡ x → has_batch other (if not x then b ∷ less_batch channel bs else less_batch channel bs) ≡ (bytes_eq other b.channel || has_batch other bs))
    (λ y z. gone_other channel other bs e ∙ sym (ap (λ (x : Bool). x || has_batch other bs) (differs channel other b.channel e z)))
    (λ y z. ap (λ (x : Bool). bytes_eq other b.channel || x) (gone_other channel other bs e)) refl
  where
    differs : (a b c : List ℕ) → bytes_eq a b ≡ false → bytes_eq a c ≡ true → bytes_eq b c ≡ false
    differs a b c x y = bool_case (bytes_eq b c) (λ t. bytes_eq b c ≡ t → t ≡ false) (λ z w. absurd (cc (x, name_self a, name_is a c y, name_is b c w))) (λ z w. refl) refl

abbrev with_batch : Batch → List Batch → List Batch
with_batch b bs = set_named (λ (x : Batch). x.channel) b bs

comes_first : (channel : List ℕ) (b : Batch) (bs : List Batch) → b.channel ≡ channel → has_batch channel (b ∷ bs) ≡ true
comes_first channel b bs e = ap (λ (x : List ℕ). bytes_eq channel x || has_batch channel bs) e ∙ ap (λ (x : Bool). x || has_batch channel bs) (name_self channel)

come_itself : (channel : List ℕ) (b : Batch) (bs : List Batch) → b.channel ≡ channel → has_batch channel (with_batch b bs) ≡ true
come_itself channel b [] e = comes_first channel b [] e
come_itself channel b (c ∷ cs) e = bool_case (bytes_eq b.channel c.channel)
    (λ x. has_batch channel (if x then b ∷ cs else (if comes_before b.channel c.channel then b ∷ c ∷ cs else c ∷ with_batch b cs)) ≡ true)
    (λ z. comes_first channel b cs e)
    (λ z. bool_case (comes_before b.channel c.channel) (λ x. has_batch channel (if x then b ∷ c ∷ cs else c ∷ with_batch b cs) ≡ true)
    (λ z. comes_first channel b (c ∷ cs) e)
    (λ z. ap (λ (x : Bool). bytes_eq channel c.channel || x) (come_itself channel b cs e) ∙ bool_case (bytes_eq channel c.channel) (λ x. (x || true) ≡ true) (λ z. refl) (λ z. refl)))

come_other : (other : List ℕ) (b : Batch) (bs : List Batch) → bytes_eq other b.channel ≡ false → has_batch other (with_batch b bs) ≡ has_batch other bs
come_other other b [] e = ap (λ (x : Bool). x || false) e
come_other other b (c ∷ cs) e = bool_case (bytes_eq b.channel c.channel)
    (λ x. bytes_eq b.channel c.channel ≡ x → has_batch other (if x then b ∷ cs else (if comes_before b.channel c.channel then b ∷ c ∷ cs else c ∷ with_batch b cs)) ≡ has_batch other (c ∷ cs))
    (λ y z. ap (λ (n : List ℕ). bytes_eq other n || has_batch other cs) (name_is b.channel c.channel z))
    (λ y z. bool_case (comes_before b.channel c.channel) (λ x. has_batch other (if x then b ∷ c ∷ cs else c ∷ with_batch b cs) ≡ has_batch other (c ∷ cs))
    (λ w. ap (λ (x : Bool). x || has_batch other (c ∷ cs)) e)
    (λ w. ap (λ (x : Bool). bytes_eq other c.channel || x) (come_other other b cs e)))
    refl

turned : (a b : List ℕ) → bytes_eq a b ≡ false → bytes_eq b a ≡ false
turned a b e = bool_case (bytes_eq b a) (λ t. bytes_eq b a ≡ t → t ≡ false) (λ z w. absurd (cc (e, name_self a, name_is b a w))) (λ z w. refl) refl

-- A batch is held: nothing that lasts.
held_row : (b : Batch) (bs : List Batch) (t : Bool) (row : Row) → held_by (holders.Batch b.channel) row.by ≡ false
    → lasting_row (with_batch b bs) (retag_if (t && is_free row) (Some (holders.Batch b.channel)) row) ≡ lasting_row bs row
held_row b bs t row = by_holder t row.by
  where
    by_holder : (t : Bool) (by : Option Holder) → held_by (holders.Batch b.channel) by ≡ false
        → lasting_row (with_batch b bs) (retag_if (t && is_free (record row { by = by })) (Some (holders.Batch b.channel)) (record row { by = by })) ≡ lasting_row bs (record row { by = by })
    by_holder true None e = ap (λ (x : Bool). record (lasting_row bs row) { by = if x then None else Some (holders.Batch b.channel) }) (come_itself b.channel b bs refl)
    by_holder false None e = refl
    by_holder true (Some (holders.Unit n)) e = refl
    by_holder false (Some (holders.Unit n)) e = refl
    by_holder true (Some (holders.Batch c)) e = ap (λ (x : Bool). record (lasting_row bs row) { by = if x then None else Some (holders.Batch c) }) (come_other c b bs (turned b.channel c e))
    by_holder false (Some (holders.Batch c)) e = ap (λ (x : Bool). record (lasting_row bs row) { by = if x then None else Some (holders.Batch c) }) (come_other c b bs (turned b.channel c e))

tagged_persists : (b : Bool) (by : Option Holder) (row : Row) → is_persistent (retag_if b by row).message ≡ is_persistent row.message
tagged_persists true by row = refl
tagged_persists false by row = refl

pub holding_aside : (b : Batch) (p : Plain) → AllByRecursion (HoldsNone b.channel) p.queues
    → lasting (apply_all (Hold (Among b.queue b.idents) (holders.Batch b.channel) ∷ AddBatch b ∷ []) p) ≡ lasting p
holding_aside b p h = ap (λ (x : List Shelf). record (lasting p) { shelves = x })
    (shelves_alike (with_batch b p.channels.batches) p.channels.batches (held_in (Among b.queue b.idents) (holders.Batch b.channel)) p.queues
    (all_map (HoldsNone b.channel) (λ (q : Queue). shelf_of (with_batch b p.channels.batches) (held_in (Among b.queue b.idents) (holders.Batch b.channel) q) ≡ shelf_of p.channels.batches q)
    (λ q e. ap (λ (x : List Row). record (shelf_of p.channels.batches q) { rows = x })
    (rows_alike_each (with_batch b p.channels.batches) p.channels.batches (λ (row : Row). retag_if (selects (Among b.queue b.idents) q.name row && is_free row) (Some (holders.Batch b.channel)) row) q.rows
    (λ row. tagged_persists (selects (Among b.queue b.idents) q.name row && is_free row) (Some (holders.Batch b.channel)) row)
    (all_map (λ (row : Row). held_by (holders.Batch b.channel) row.by ≡ false) (λ (row : Row). lasting_row (with_batch b p.channels.batches) (retag_if (selects (Among b.queue b.idents) q.name row && is_free row) (Some (holders.Batch b.channel)) row) ≡ lasting_row p.channels.batches row)
    (λ row w. held_row b p.channels.batches (selects (Among b.queue b.idents) q.name row) row w) q.rows e))) p.queues h))

-- A batch is released: nothing that lasts.
released_row : (channel : List ℕ) (bs : List Batch) (row : Row) → has_batch channel bs ≡ true
    → lasting_row (less_batch channel bs) (release_if (held_by (holders.Batch channel) row.by && not (is_free row)) false row) ≡ lasting_row bs row
released_row channel bs row h = by_holder row.by
  where
    by_holder : (by : Option Holder) → lasting_row (less_batch channel bs) (release_if (held_by (holders.Batch channel) by && not (is_free (record row { by = by }))) false (record row { by = by })) ≡ lasting_row bs (record row { by = by })
    by_holder None = refl
    by_holder (Some (holders.Unit n)) = refl
    by_holder (Some (holders.Batch c)) = bool_case (bytes_eq channel c)
        (λ t. bytes_eq channel c ≡ t → lasting_row (less_batch channel bs) (release_if (t && true) false (record row { by = Some (holders.Batch c) })) ≡ lasting_row bs (record row { by = Some (holders.Batch c) }))
        (λ z e. ap (λ (x : Bool). record (lasting_row bs row) { by = if x then None else Some (holders.Batch c) }) (sym (ap (λ (x : List ℕ). has_batch x bs) (sym (name_is channel c e)) ∙ h)))
        (λ z e. ap (λ (x : Bool). record (lasting_row bs row) { by = if x then None else Some (holders.Batch c) }) (gone_other channel c bs e))
        refl

release_persists : (b : Bool) (row : Row) → is_persistent (release_if b false row).message ≡ is_persistent row.message
release_persists true row = refl
release_persists false row = refl

pub releasing_aside : (channel : List ℕ) (p : Plain) → has_batch channel p.channels.batches ≡ true
    → lasting (apply_all (Release (HeldBy (holders.Batch channel)) false ∷ DropBatch channel ∷ []) p) ≡ lasting p
releasing_aside channel p h = ap (λ (x : List Shelf). record (lasting p) { shelves = x })
    (shelves_alike (less_batch channel p.channels.batches) p.channels.batches (released_in (HeldBy (holders.Batch channel)) false) p.queues
    (all_of (λ (q : Queue). shelf_of (less_batch channel p.channels.batches) (released_in (HeldBy (holders.Batch channel)) false q) ≡ shelf_of p.channels.batches q)
    (λ q. ap (λ (x : List Row). record (shelf_of p.channels.batches q) { rows = x })
    (rows_alike_each (less_batch channel p.channels.batches) p.channels.batches (λ (row : Row). release_if (held_by (holders.Batch channel) row.by && not (is_free row)) false row) q.rows
    (λ row. release_persists (held_by (holders.Batch channel) row.by && not (is_free row)) row)
    (all_of (λ (row : Row). lasting_row (less_batch channel p.channels.batches) (release_if (held_by (holders.Batch channel) row.by && not (is_free row)) false row) ≡ lasting_row p.channels.batches row)
    (λ row. released_row channel p.channels.batches row h) q.rows))) p.queues))

-- A batch is prepared: from here its rows are held by a unit in doubt.
prepared_row : (b : Batch) (bs : List Batch) (name : List ℕ) (row : Row) → has_batch b.channel bs ≡ true → held_by (holders.Batch b.channel) row.by ≡ selects (Among b.queue b.idents) name row
    → lasting_row (less_batch b.channel bs) row ≡ retag_if (selects (Among b.queue b.idents) name (lasting_row bs row) && is_free (lasting_row bs row)) (Some (holders.Batch b.channel)) (lasting_row bs row)
prepared_row b bs name row h e = by_holder (selects (Among b.queue b.idents) name row) row.by e
  where
    by_holder : (t : Bool) (by : Option Holder) → held_by (holders.Batch b.channel) by ≡ t
        → lasting_row (less_batch b.channel bs) (record row { by = by }) ≡ retag_if (t && is_free (lasting_row bs (record row { by = by }))) (Some (holders.Batch b.channel)) (lasting_row bs (record row { by = by }))
    by_holder true None w = absurd (cc w)
    by_holder false None w = refl
    by_holder true (Some (holders.Unit n)) w = absurd (cc w)
    by_holder false (Some (holders.Unit n)) w = refl
    by_holder true (Some (holders.Batch c)) w = own c (name_is b.channel c w)
      where
        own : (c : List ℕ) → b.channel ≡ c → lasting_row (less_batch b.channel bs) (record row { by = Some (holders.Batch c) }) ≡ retag_if (is_free (lasting_row bs (record row { by = Some (holders.Batch c) }))) (Some (holders.Batch b.channel)) (lasting_row bs (record row { by = Some (holders.Batch c) }))
        own c e = subst (λ (x : List ℕ). lasting_row (less_batch b.channel bs) (record row { by = Some (holders.Batch x) }) ≡ retag_if (is_free (lasting_row bs (record row { by = Some (holders.Batch x) }))) (Some (holders.Batch b.channel)) (lasting_row bs (record row { by = Some (holders.Batch x) }))) e
            (ap (λ (x : Bool). record (lasting_row bs row) { by = if x then None else Some (holders.Batch b.channel) }) (gone_itself b.channel bs)
            ∙ sym (ap (λ (x : Bool). retag_if (is_free (record (lasting_row bs row) { by = if x then None else Some (holders.Batch b.channel) })) (Some (holders.Batch b.channel)) (record (lasting_row bs row) { by = if x then None else Some (holders.Batch b.channel) })) h))
    by_holder false (Some (holders.Batch c)) w = ap (λ (x : Bool). record (lasting_row bs row) { by = if x then None else Some (holders.Batch c) }) (gone_other b.channel c bs w)

prepared_shelves : (b : Batch) (bs : List Batch) → has_batch b.channel bs ≡ true → (qs : List Queue) → AllByRecursion (HoldsJust b) qs
    → shelves_of (less_batch b.channel bs) qs ≡ on_all (held_rows (Among b.queue b.idents) (holders.Batch b.channel)) (shelves_of bs qs)
prepared_shelves b bs h [] e = refl
prepared_shelves b bs h (q ∷ qs) e = ap (λ (x : List Row). record (shelf_of bs q) { rows = x } ∷ shelves_of (less_batch b.channel bs) qs)
    (rows_become_each (less_batch b.channel bs) bs (λ (row : Row). retag_if (selects (Among b.queue b.idents) q.name row && is_free row) (Some (holders.Batch b.channel)) row) q.rows
    (all_map (λ (row : Row). held_by (holders.Batch b.channel) row.by ≡ selects (Among b.queue b.idents) q.name row)
    (λ (row : Row). lasting_row (less_batch b.channel bs) row ≡ retag_if (selects (Among b.queue b.idents) q.name (lasting_row bs row) && is_free (lasting_row bs row)) (Some (holders.Batch b.channel)) (lasting_row bs row))
    (λ row w. prepared_row b bs q.name row h w) q.rows e.0))
    ∙ ap (λ (x : List Shelf). held_rows (Among b.queue b.idents) (holders.Batch b.channel) (shelf_of bs q) ∷ x) (prepared_shelves b bs h qs e.1)

pub prepared_does : (b : Batch) (last : ℕ) (p : Plain) → has_batch b.channel p.channels.batches ≡ true → AllByRecursion (HoldsJust b) p.queues
    → can_prepare b.unit b.queue b.idents (sender_or (sender_data b.channel p)) (lasting p).shelves ≡ true
    → Told (Some (prepared_record b.channel last b)) p (lasting (apply_all (prepared_changes b.channel last b (sender_or (sender_data b.channel p))) p))
prepared_does b last p h e can = (
  can,
  ap (λ (x : List Shelf). with_sender b.channel (record (sender_or (sender_data b.channel p)) { force = false; in_doubt = Some (record { unit = b.unit; queue = b.queue; idents = b.idents; last = last }) }) (record (lasting p) { shelves = x }))
      (prepared_shelves b p.channels.batches h p.queues e),
)
