-- A unit that is backed out changes nothing that lasts.
use Rattle.std.proofs.Common.{ℕ, ◌≡◌, Bool, true, false, List, [], ◌∷◌, refl, ap, sym, ◌∙◌, subst, inl, inr}
use Rattle.std.specs.Prelude.{Option, None, Some, not, ◌++◌, ◌&&◌, ◌||◌, flat_map, map}
use Rattle.std.specs.List.{AllByRecursion}
use Rattle.std.specs.Str.{bytes_eq}
use Rattle.mq_message.specs.declared.message.Ident.{Ident}
use Rattle.mq_message.specs.declared.place.Holder.{Holder}
use Rattle.mq_queue.specs.declared.row.Row.{Row}
use Rattle.mq_queue.specs.Rows.{same_ident, is_free, retag}
use Rattle.mq_calls.specs.declared.state.Item.{Item}
use Rattle.mq_calls.specs.declared.state.Item.TheVariants.{Put, Take}
use Rattle.mq_calls.specs.State.{Plain, Queue}
use Rattle.mq_calls.specs.declared.state.Batch.{Batch}
use Rattle.mq_calls.specs.declared.state.Connection.{Connection}
use Rattle.mq_calls.specs.State.Which.{Among}
use Rattle.mq_calls.specs.State.Change.{Release, EndUnit}
use Rattle.mq_calls.specs.Reads.{connection_at, is_persistent}
use Rattle.mq_calls.specs.Changes.{apply, apply_all, released_in, release_if, selects}
use Rattle.mq_calls.specs.Images.{lasting, lasting_row, rests_by, shelf_of}
use Rattle.mq_calls.specs.declared.image.Shelf.{Shelf}
use Rattle.mq_spec_manager.specs.Units.{freed_item}
use Rattle.mq_law_manager.specs.View.{Taken, view, takes_in, items_of}
use Rattle.mq_law_manager.specs.Facts.{Mem, Sound, AreNamed, IsSound}
use Rattle.mq_law_manager.proofs.Lists.{ident_yes, one_row}
use Rattle.mq_law_manager.proofs.Named.{name_is}
use Rattle.mq_law_manager.proofs.Stocks.{both_among as both}
use Rattle.mq_law_log.proofs.Shelves.{shelves_alike}
use Rattle.mq_law_log.proofs.Batches.{all_map, rows_alike_each}
use Rattle.mq_law_log.proofs.Parts.{applied_append}
use Rattle.mq_law_log.proofs.Bridge.{all_of, rows_of}

-- rows of an ident that no batch in doubt holds
abbrev Rests : List Batch → List ℕ → Ident → Queue → Type 0
Rests bs queue ident q = AllByRecursion (λ (row : Row). selects (Among queue (ident ∷ [])) q.name row ≡ true → rests_by bs row.by ≡ None) q.rows

release_row : (bs : List Batch) (b : Bool) (row : Row) → (b ≡ true → rests_by bs row.by ≡ None) → lasting_row bs (release_if (b && not (is_free row)) true row) ≡ lasting_row bs row
release_row bs b row h = by_holder b row.by h
  where
    by_holder : (b : Bool) (by : Option Holder) → (b ≡ true → rests_by bs by ≡ None) → lasting_row bs (release_if (b && not (is_free (record row { by = by }))) true (record row { by = by })) ≡ lasting_row bs (record row { by = by })
    by_holder false None h = refl
    by_holder true None h = refl
    by_holder false (Some x) h = refl
    by_holder true (Some x) h = ap (λ (o : Option Holder). record (lasting_row bs row) { by = o }) (sym (h refl))

release_persists : (b : Bool) (row : Row) → is_persistent (release_if b true row).message ≡ is_persistent row.message
release_persists true row = refl
release_persists false row = refl

released : (queue : List ℕ) (ident : Ident) (p : Plain) → AllByRecursion (Rests p.channels.batches queue ident) p.queues → lasting (apply (Release (Among queue (ident ∷ [])) true) p) ≡ lasting p
released queue ident p h =
    let bs : List Batch = p.channels.batches in
    let which = Among queue (ident ∷ []) in
    ap (λ (x : List Shelf). record (lasting p) { shelves = x })
    (shelves_alike bs bs (released_in which true) p.queues
    (all_map (Rests bs queue ident) (λ (q : Queue). shelf_of bs (released_in which true q) ≡ shelf_of bs q)
    (λ q e. ap (λ (x : List Row). record (shelf_of bs q) { rows = x })
    (rows_alike_each bs bs (λ (row : Row). release_if (selects which q.name row && not (is_free row)) true row) q.rows (λ row. release_persists (selects which q.name row && not (is_free row)) row)
    (all_map (λ (row : Row). selects which q.name row ≡ true → rests_by bs row.by ≡ None) (λ (row : Row). lasting_row bs (release_if (selects which q.name row && not (is_free row)) true row) ≡ lasting_row bs row)
    (λ row w. release_row bs (selects which q.name row) row w) q.rows e))) p.queues h))

-- the rows of another ident are as they were
rests_row : (bs : List Batch) (queue : List ℕ) (ident : Ident) (name : List ℕ) (b : Bool) (row : Row) → (selects (Among queue (ident ∷ [])) name row ≡ true → rests_by bs row.by ≡ None)
    → selects (Among queue (ident ∷ [])) name (release_if b true row) ≡ true → rests_by bs (release_if b true row).by ≡ None
rests_row bs queue ident name true row h e = refl
rests_row bs queue ident name false row h e = h e

rests_rows : (bs : List Batch) (queue : List ℕ) (ident : Ident) (name : List ℕ) (f : Row → Bool) (rows : List Row) → AllByRecursion (λ (row : Row). selects (Among queue (ident ∷ [])) name row ≡ true → rests_by bs row.by ≡ None) rows
    → AllByRecursion (λ (row : Row). selects (Among queue (ident ∷ [])) name row ≡ true → rests_by bs row.by ≡ None) (retag (λ (row : Row). release_if (f row) true row) rows)
rests_rows bs queue ident name f [] h = tt
rests_rows bs queue ident name f (row ∷ rows) h = (rests_row bs queue ident name (f row) row h.0, rests_rows bs queue ident name f rows h.1)

rests_behind : (bs : List Batch) (queue from : List ℕ) (ident other : Ident) (qs : List Queue) → AllByRecursion (Rests bs queue ident) qs → AllByRecursion (Rests bs queue ident) (map (released_in (Among from (other ∷ [])) true) qs)
rests_behind bs queue from ident other [] h = tt
rests_behind bs queue from ident other (q ∷ qs) h =
    (rests_rows bs queue ident q.name (λ (row : Row). selects (Among from (other ∷ [])) q.name row && not (is_free row)) q.rows h.0, rests_behind bs queue from ident other qs h.1)

-- the gets of a unit
abbrev ItemRests : Plain → Item → Type 0
ItemRests p (Put queue m) = Unit {0}
ItemRests p (Take queue ident persistent) = AllByRecursion (Rests p.channels.batches queue ident) p.queues

items_rest : (from : List ℕ) (other : Ident) (items : List Item) (p : Plain) → AllByRecursion (ItemRests p) items → AllByRecursion (ItemRests (apply (Release (Among from (other ∷ [])) true) p)) items
items_rest from other [] p h = tt
items_rest from other (Put queue m ∷ items) p h = (tt, items_rest from other items p h.1)
items_rest from other (Take queue ident persistent ∷ items) p h = (rests_behind p.channels.batches queue from ident other p.queues h.0, items_rest from other items p h.1)

freed_lasts : (items : List Item) (p : Plain) → AllByRecursion (ItemRests p) items → lasting (apply_all (flat_map freed_item items) p) ≡ lasting p
freed_lasts [] p h = refl
freed_lasts (Put queue m ∷ items) p h = freed_lasts items p h.1
freed_lasts (Take queue ident persistent ∷ items) p h =
    freed_lasts items (apply (Release (Among queue (ident ∷ [])) true) p) (items_rest queue ident items p h.1) ∙ released queue ident p h.0

unit_rests : (p : Plain) → Sound p → AreNamed p.queues → (n : ℕ) (items : List Item) → ((t : Taken) → Mem t (takes_in items) → Mem t ((view p).takes n)) → AllByRecursion (ItemRests p) items
unit_rests p h names n [] takes = tt
unit_rests p h names n (Put queue m ∷ items) takes = (tt, unit_rests p h names n items takes)
unit_rests p h names n (Take queue ident persistent ∷ items) takes = (
  all_of (Rests p.channels.batches queue ident) p.queues (λ q m. all_of _ q.rows (λ x k e.
      let held = h.taken.there n (record { queue = queue; ident = ident; persistent = persistent }) (takes (record { queue = queue; ident = ident; persistent = persistent }) (inl refl)) in
      let s = both (bytes_eq q.name queue) (same_ident x.message.ident ident) e in
      let on : Mem x ((view p).rows q.name) = subst (λ (rows : List Row). Mem x rows) (sym (rows_of p names q m)) k in
      let one : x ≡ held.row = one_row ((view p).rows queue) x held.row (h.apart.once queue) (subst (λ (name : List ℕ). Mem x ((view p).rows name)) (name_is q.name queue s.0) on) held.there (ident_yes x.message.ident ident s.1 ∙ sym held.is) in
      ap (rests_by p.channels.batches) (ap (λ (r : Row). r.by) one ∙ held.by))),
  unit_rests p h names n items (λ t k. takes t (inr k)),
)

pub backout_lasts : (c : Connection) (p : Plain) → IsSound p → connection_at c.number p.connections ≡ Some c → lasting (apply_all (flat_map freed_item c.unit ++ EndUnit c.number ∷ []) p) ≡ lasting p
backout_lasts c p h live = ap lasting (applied_append (flat_map freed_item c.unit) (EndUnit c.number ∷ []) p)
    ∙ freed_lasts c.unit p (unit_rests p h.facts h.named c.number c.unit (λ t m. subst (λ (o : Option Connection). Mem t (takes_in (items_of o))) (sym live) m))
