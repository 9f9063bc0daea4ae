-- A sound manager's rows can be taken, and its puts placed, in the order of their unit.
use Rattle.std.proofs.Common.{ℕ, ◌≡◌, Bool, true, false, List, [], ◌∷◌, refl, ap, sym, ◌∙◌, subst, arith, inl, inr}
use Rattle.std.specs.Prelude.{Option, Some, None, not, ◌&&◌, ◌||◌, if◌then◌else◌, ◌++◌}
use Rattle.std.specs.List.{AllByRecursion, list_any}
use Rattle.std.specs.Str.{bytes_eq}
use Rattle.std.proofs.lemmas.Bool.Decides.{nat_tests}
use Rattle.mq_message.specs.declared.message.Ident.{Ident}
use Rattle.mq_message.specs.declared.place.Holder.{Holder}
use Rattle.mq_message.specs.declared.place.Holder.TheVariants as holders
use Rattle.mq_queue.specs.declared.row.Row.{Row}
use Rattle.mq_queue.specs.Rows.{same_ident, has_ident, keep, is_free}
use Rattle.mq_queue.specs.Queues.{Lacks, AreDistinct}
use Rattle.mq_queue.proofs.Edits.{same_turned}
use Rattle.mq_calls.specs.declared.state.Item.{Item}
use Rattle.mq_calls.specs.declared.state.Item.TheVariants.{Put, Take}
use Rattle.mq_calls.specs.State.{Plain, Queue}
use Rattle.mq_calls.specs.declared.state.Batch.{Batch}
use Rattle.mq_calls.specs.State.Which.{Among}
use Rattle.mq_calls.specs.Reads.{stored, queue_in, is_persistent, is_by_unit}
use Rattle.mq_calls.specs.Changes.{selects}
use Rattle.mq_calls.specs.Images.{lasting, lasting_row, lasting_rows, shelves_of}
use Rattle.mq_calls.specs.declared.image.Shelf.{Shelf}
use Rattle.mq_calls.specs.declared.image.Image.{Image}
use Rattle.mq_spec_log.specs.Shelves.{shelf_in, on_all, less_rows}
use Rattle.mq_spec_log.specs.Applies.{is_free_at}
use Rattle.mq_law_log.specs.Keeps.{IsTakeable, AreTakeable, AreGone, less_item}
use Rattle.mq_law_log.specs.Sound.{all_rows, Mem, IsItem, item_ident, AreApart, IsUnit, IsLogSound, AreFree}
use Rattle.mq_law_log.proofs.Rows.{bool_case, same_self, lacks_last}
use Rattle.mq_law_log.proofs.Shelves.{shelf_found}
use Rattle.mq_law_log.proofs.Batches.{all_map}

-- Rows that stay.
pub lacks_kept : (t : Row → Bool) (ident : Ident) (rows : List Row) → Lacks ident rows → Lacks ident (keep t rows)
lacks_kept t ident [] h = tt
lacks_kept t ident (row ∷ rows) h = bool_case (t row) (λ b. Lacks ident (if b then row ∷ keep t rows else keep t rows)) (λ e. (h.0, lacks_kept t ident rows h.1)) (λ e. lacks_kept t ident rows h.1)

any_kept : (s t : Row → Bool) → ((row : Row) → s row ≡ true → t row ≡ true) → (rows : List Row) → list_any s rows ≡ true → list_any s (keep t rows) ≡ true
any_kept s t f [] h = absurd (cc h)
any_kept s t f (row ∷ rows) h = bool_case (s row)
    (λ b. s row ≡ b → (b || list_any s rows) ≡ true → list_any s (if t row then row ∷ keep t rows else keep t rows) ≡ true)
    (λ y e w. ap (λ (b : Bool). list_any s (if b then row ∷ keep t rows else keep t rows)) (f row e) ∙ ap (λ (b : Bool). b || list_any s (keep t rows)) e)
    (λ y e w. bool_case (t row) (λ b. list_any s (if b then row ∷ keep t rows else keep t rows) ≡ true)
    (λ z. ap (λ (b : Bool). b || list_any s (keep t rows)) e ∙ any_kept s t f rows w) (λ z. any_kept s t f rows w))
    refl h

shelf_kept : (name queue : List ℕ) (ident : Ident) (ss : List Shelf) → shelf_in name (on_all (less_rows (Among queue (ident ∷ []))) ss) ≡ less_rows (Among queue (ident ∷ [])) (shelf_in name ss)
shelf_kept name queue ident [] = refl
shelf_kept name queue ident (s ∷ ss) = bool_case (bytes_eq name s.name)
    (λ b. (if b then less_rows (Among queue (ident ∷ [])) s else shelf_in name (on_all (less_rows (Among queue (ident ∷ []))) ss)) ≡ less_rows (Among queue (ident ∷ [])) (if b then s else shelf_in name ss))
    (λ e. refl) (λ e. shelf_kept name queue ident ss)

apart : (a b c : Ident) → same_ident a b ≡ true → same_ident b c ≡ false → same_ident a c ≡ false
apart a b c e f = grind (arith, nat_tests)

spared : (other ident : Ident) (name queue : List ℕ) (row : Row) → same_ident other ident ≡ false → is_free_at other row ≡ true → not (selects (Among queue (ident ∷ [])) name row) ≡ true
spared other ident name queue row e h = bool_case (is_free row)
    (λ b. (b && has_ident other row) ≡ true → not (bytes_eq name queue && (same_ident row.message.ident ident || false)) ≡ true)
    (λ z w. ap (λ (b : Bool). not (bytes_eq name queue && (b || false))) (apart row.message.ident other ident w e) ∙ bool_case (bytes_eq name queue) (λ b. not (b && false) ≡ true) (λ y. refl) (λ y. refl))
    (λ z w. absurd (cc w)) h

lacks_left : (queue : List ℕ) (ident other : Ident) (ss : List Shelf) → AllByRecursion (λ (s : Shelf). Lacks other s.rows) ss → AllByRecursion (λ (s : Shelf). Lacks other s.rows) (on_all (less_rows (Among queue (ident ∷ []))) ss)
lacks_left queue ident other [] h = tt
lacks_left queue ident other (s ∷ ss) h = (lacks_kept (λ (row : Row). not (selects (Among queue (ident ∷ [])) s.name row)) other s.rows h.0, lacks_left queue ident other ss h.1)

-- one that can be taken can be taken after another
pub takeable_stays : (b c : Bool) (queue from : List ℕ) (other ident : Ident) (i : Image) → same_ident other ident ≡ false → IsTakeable b queue other i → IsTakeable b queue other (less_item c from ident i)
takeable_stays b false queue from other ident i e h = h
takeable_stays true true queue from other ident i e h = ap (λ (s : Shelf). list_any (is_free_at other) s.rows) (shelf_kept queue from ident i.shelves)
    ∙ any_kept (is_free_at other) (λ (row : Row). not (selects (Among from (ident ∷ [])) (shelf_in queue i.shelves).name row)) (λ row w. spared other ident (shelf_in queue i.shelves).name from row e w) (shelf_in queue i.shelves).rows h
takeable_stays false true queue from other ident i e h = lacks_left from ident other i.shelves h

-- Rows of a sound manager.
mem_append : {A : Type 0} (x : A) (xs ys : List A) → Mem x xs → Mem x (xs ++ ys)
mem_append x [] ys m = absurd m
mem_append x (y ∷ xs) ys (inl e) = inl e
mem_append x (y ∷ xs) ys (inr m) = inr (mem_append x xs ys m)

mem_behind : {A : Type 0} (x : A) (xs ys : List A) → Mem x ys → Mem x (xs ++ ys)
mem_behind x [] ys m = m
mem_behind x (y ∷ xs) ys m = inr (mem_behind x xs ys m)

mem_stored : (name : List ℕ) (row : Row) (qs : List Queue) → Mem row (queue_in name qs).rows → Mem row (all_rows qs)
mem_stored name row [] m = absurd m
mem_stored name row (q ∷ qs) m = bool_case (bytes_eq name q.name) (λ b. Mem row (if b then q else queue_in name qs).rows → Mem row (q.rows ++ all_rows qs))
    (λ e w. mem_append row q.rows (all_rows qs) w) (λ e w. mem_behind row q.rows (all_rows qs) (mem_stored name row qs w)) m

lacking : (ident : Ident) (x : Row) (rows : List Row) → Lacks ident rows → Mem x rows → has_ident ident x ≡ false
lacking ident x [] h m = absurd m
lacking ident x (y ∷ ys) h (inl e) = ap (has_ident ident) e ∙ h.0
lacking ident x (y ∷ ys) h (inr m) = lacking ident x ys h.1 m

-- beside a row that doesn't last no row that lasts has its ident
only_one : (bs : List Batch) (x : Row) (rows : List Row) → AreDistinct rows → Mem x rows → is_persistent x.message ≡ false → Lacks x.message.ident (lasting_rows bs rows)
only_one bs x [] h m e = absurd m
only_one bs x (y ∷ ys) h (inl z) e = subst (λ (b : Bool). Lacks x.message.ident (if b then lasting_row bs y ∷ lasting_rows bs ys else lasting_rows bs ys)) (sym e ∙ ap (λ (r : Row). is_persistent r.message) z)
    (lacks_last bs x.message.ident ys (subst (λ (r : Row). Lacks r.message.ident ys) (sym z) h.0))
only_one bs x (y ∷ ys) h (inr m) e = bool_case (is_persistent y.message) (λ b. Lacks x.message.ident (if b then lasting_row bs y ∷ lasting_rows bs ys else lasting_rows bs ys))
    (λ z. (same_turned y.message.ident x.message.ident ∙ lacking y.message.ident x ys h.0 m, only_one bs x ys h.1 m e)) (λ z. only_one bs x ys h.1 m e)

split : (bs : List Batch) (ident : Ident) (xs ys : List Row) → Lacks ident (lasting_rows bs (xs ++ ys)) → Lacks ident (lasting_rows bs xs) × Lacks ident (lasting_rows bs ys)
split bs ident [] ys h = (tt, h)
split bs ident (x ∷ xs) ys h = bool_case (is_persistent x.message)
    (λ b. Lacks ident (if b then lasting_row bs x ∷ lasting_rows bs (xs ++ ys) else lasting_rows bs (xs ++ ys)) → Lacks ident (if b then lasting_row bs x ∷ lasting_rows bs xs else lasting_rows bs xs) × Lacks ident (lasting_rows bs ys))
    (λ e w. ((w.0, (split bs ident xs ys w.1).0), (split bs ident xs ys w.1).1)) (λ e w. split bs ident xs ys w) h

on_shelves_none : (bs : List Batch) (ident : Ident) (qs : List Queue) → Lacks ident (lasting_rows bs (all_rows qs)) → AllByRecursion (λ (s : Shelf). Lacks ident s.rows) (shelves_of bs qs)
on_shelves_none bs ident [] h = tt
on_shelves_none bs ident (q ∷ qs) h = ((split bs ident q.rows (all_rows qs) h).0, on_shelves_none bs ident qs (split bs ident q.rows (all_rows qs) h).1)

-- a row that is there, and nobody holds when a stop has come, is one that lasts
stands_last : (bs : List Batch) (x : Row) (rows : List Row) → Mem x rows → is_persistent x.message ≡ true → is_free (lasting_row bs x) ≡ true → list_any (is_free_at x.message.ident) (lasting_rows bs rows) ≡ true
stands_last bs x [] m e f = absurd m
stands_last bs x (y ∷ ys) (inl z) e f = subst (λ (r : Row). list_any (is_free_at x.message.ident) (if is_persistent r.message then lasting_row bs r ∷ lasting_rows bs ys else lasting_rows bs ys) ≡ true) z
    (ap (λ (b : Bool). list_any (is_free_at x.message.ident) (if b then lasting_row bs x ∷ lasting_rows bs ys else lasting_rows bs ys)) e
    ∙ ap (λ (b : Bool). (b && has_ident x.message.ident x) || list_any (is_free_at x.message.ident) (lasting_rows bs ys)) f
    ∙ ap (λ (b : Bool). b || list_any (is_free_at x.message.ident) (lasting_rows bs ys)) (same_self x.message.ident))
stands_last bs x (y ∷ ys) (inr m) e f = bool_case (is_persistent y.message) (λ b. list_any (is_free_at x.message.ident) (if b then lasting_row bs y ∷ lasting_rows bs ys else lasting_rows bs ys) ≡ true)
    (λ z. ap (λ (b : Bool). is_free_at x.message.ident (lasting_row bs y) || b) (stands_last bs x ys m e f) ∙ bool_case (is_free_at x.message.ident (lasting_row bs y)) (λ b. (b || true) ≡ true) (λ w. refl) (λ w. refl))
    (λ z. stands_last bs x ys m e f)

-- so it can be taken; and where it doesn't last, nothing has its ident
pub row_takeable : (queue : List ℕ) (x : Row) (p : Plain) → AreDistinct (all_rows p.queues) → Mem x (stored queue p).rows → is_free (lasting_row p.channels.batches x) ≡ true → IsTakeable (is_persistent x.message) queue x.message.ident (lasting p)
row_takeable queue x p once m f = bool_case (is_persistent x.message) (λ b. is_persistent x.message ≡ b → IsTakeable b queue x.message.ident (lasting p))
    (λ y e. ap (λ (s : Shelf). list_any (is_free_at x.message.ident) s.rows) (shelf_found p.channels.batches queue p.queues) ∙ stands_last p.channels.batches x (stored queue p).rows m e f)
    (λ y e. on_shelves_none p.channels.batches x.message.ident p.queues (only_one p.channels.batches x (all_rows p.queues) once (mem_stored queue x p.queues m) e))
    refl

pub free_lasts : (bs : List Batch) (x : Row) → is_free x ≡ true → is_free (lasting_row bs x) ≡ true
free_lasts bs x = by_holder x.by
  where
    by_holder : (by : Option Holder) → is_free (record x { by = by }) ≡ true → is_free (lasting_row bs (record x { by = by })) ≡ true
    by_holder None e = refl
    by_holder (Some h) e = absurd (cc e)

held_lasts : (bs : List Batch) (x : Row) → is_by_unit x.by ≡ true → is_free (lasting_row bs x) ≡ true
held_lasts bs x = by_holder x.by
  where
    by_holder : (by : Option Holder) → is_by_unit by ≡ true → is_free (lasting_row bs (record x { by = by })) ≡ true
    by_holder None e = absurd (cc e)
    by_holder (Some (holders.Unit n)) e = refl
    by_holder (Some (holders.Batch c)) e = absurd (cc e)

-- rows one after the other
abbrev AllTakeable : List ℕ → List Row → Image → Type 0
AllTakeable queue rows i = AllByRecursion (λ (row : Row). IsTakeable (is_persistent row.message) queue row.message.ident i) rows

all_stay : (queue : List ℕ) (x : Row) (rows : List Row) (i : Image) → Lacks x.message.ident rows → AllTakeable queue rows i → AllTakeable queue rows (less_item (is_persistent x.message) queue x.message.ident i)
all_stay queue x [] i h a = tt
all_stay queue x (row ∷ rows) i h a = (takeable_stays (is_persistent row.message) (is_persistent x.message) queue queue row.message.ident x.message.ident i h.0 a.0, all_stay queue x rows i h.1 a.1)

one_by_one : (queue : List ℕ) (rows : List Row) (i : Image) → AreDistinct rows → AllTakeable queue rows i → AreGone queue rows i
one_by_one queue [] i d a = tt
one_by_one queue (row ∷ rows) i d a = (a.0, one_by_one queue rows (less_item (is_persistent row.message) queue row.message.ident i) d.1 (all_stay queue row rows i d.0 a.1))

pub rows_gone : (queue : List ℕ) (rows : List Row) (p : Plain) → IsLogSound p → AreFree queue rows p → AreGone queue rows (lasting p)
rows_gone queue rows p s h = one_by_one queue rows (lasting p) h.1 (all_map (λ (row : Row). Mem row (stored queue p).rows × (is_free row ≡ true)) (λ (row : Row). IsTakeable (is_persistent row.message) queue row.message.ident (lasting p))
    (λ row w. row_takeable queue row p s.once w.0 (free_lasts p.channels.batches row w.1)) rows h.0)

-- the gets of a unit
abbrev ItemTakeable : Image → Item → Type 0
ItemTakeable i (Put queue m) = Unit {0}
ItemTakeable i (Take queue ident persistent) = IsTakeable persistent queue ident i

item_takeable : (item : Item) (p : Plain) → AreDistinct (all_rows p.queues) → IsItem item p → ItemTakeable (lasting p) item
item_takeable (Put queue m) p once h = tt
item_takeable (Take queue ident persistent) p once h = subst (λ (b : Bool). IsTakeable b queue ident (lasting p)) h.kind (subst (λ (x : Ident). IsTakeable (is_persistent h.row.message) queue x (lasting p)) h.own
    (row_takeable queue h.row p once h.there (held_lasts p.channels.batches h.row h.held)))

items_stay : (persistent : Bool) (from : List ℕ) (ident : Ident) (items : List Item) (i : Image) → AllByRecursion (λ (other : Item). same_ident (item_ident other) ident ≡ false) items → AllByRecursion (ItemTakeable i) items
    → AllByRecursion (ItemTakeable (less_item persistent from ident i)) items
items_stay persistent from ident [] i h a = tt
items_stay persistent from ident (Put queue m ∷ items) i h a = (tt, items_stay persistent from ident items i h.1 a.1)
items_stay persistent from ident (Take queue other b ∷ items) i h a = (takeable_stays b persistent queue from other ident i h.0 a.0, items_stay persistent from ident items i h.1 a.1)

items_one_by_one : (items : List Item) (i : Image) → AreApart items → AllByRecursion (ItemTakeable i) items → AreTakeable items i
items_one_by_one [] i d a = tt
items_one_by_one (Put queue m ∷ items) i d a = items_one_by_one items i d.1 a.1
items_one_by_one (Take queue ident persistent ∷ items) i d a = (a.0, items_one_by_one items (less_item persistent queue ident i) d.1 (items_stay persistent queue ident items i d.0 a.1))

pub unit_takeable : (items : List Item) (p : Plain) → AreDistinct (all_rows p.queues) → IsUnit items p → AreTakeable items (lasting p)
unit_takeable items p once h = items_one_by_one items (lasting p) h.1 (all_map (λ (item : Item). IsItem item p) (ItemTakeable (lasting p)) (λ item w. item_takeable item p once w) items h.0)
