-- What a change of a manager does to the rows of one queue: a row is placed last in its lane, rows are kept, rows are retagged,
-- the queue begins anew, or nothing.
use Rattle.std.specs.Prelude.{ℕ, ◌≡◌, ◌+◌, ◌&&◌, Bool, true, false, not, List, [], ◌∷◌, if◌then◌else◌, Some}
use Rattle.std.specs.List.{list_any}
use Rattle.mq_message.specs.declared.message.Ident.{Ident}
use Rattle.mq_message.specs.declared.place.Holder.TheVariants.{Unit as ByUnit, Batch as ByBatch}
use Rattle.std.specs.Str.{bytes_eq}
use Rattle.mq_message.specs.declared.message.Message.{Message}
use Rattle.mq_queue.specs.declared.row.Row.{Row}
use Rattle.mq_queue.specs.Rows.{insert_row, keep, retag, same_ident, is_free}
use Rattle.mq_objects.specs.Names.{local_of}
use Rattle.mq_calls.specs.State.{Plain, Change, Which}
use Rattle.mq_calls.specs.State.Change.{Place, Leave, Hold, Release, Renew, DropQueue}
use Rattle.mq_calls.specs.State.Which.{Among, HeldBy, HeldByUnits, Nonpersistent}
use Rattle.mq_calls.specs.Reads.{stored}
use Rattle.mq_calls.specs.Changes.{apply, lane_of, new_row, selects, retag_if, release_if}

pub data RowKind : Type 0 where
  Same : RowKind
  Placed : (lane : ℕ) → (message : Message) → RowKind
  Kept : (test : Row → Bool) → RowKind
  Retagged : (change : Row → Row) → RowKind
  Emptied : RowKind

abbrev pub row_kind : List ℕ → Change → Plain → RowKind
row_kind name (Place queue m) p = if bytes_eq name queue then Placed (lane_of (local_of queue p.definitions) m.md.priority) m else Same
row_kind name (Leave which) p = Kept (λ (row : Row). not (selects which name row))
row_kind name (Hold which by) p = Retagged (λ (row : Row). retag_if (selects which name row && is_free row) (Some by) row)
row_kind name (Release which counted) p = Retagged (λ (row : Row). release_if (selects which name row && not (is_free row)) counted row)
row_kind name (Renew queue) p = if bytes_eq name queue then Emptied else Same
row_kind name (DropQueue queue) p = if bytes_eq name queue then Emptied else Same
row_kind name _ p = Same

-- `arrivals` are the queue's so far
abbrev pub rows_do : RowKind → ℕ → List Row → List Row
rows_do Same arrivals rows = rows
rows_do (Placed lane m) arrivals rows = insert_row (new_row lane (arrivals + 1) m) rows
rows_do (Kept test) arrivals rows = keep test rows
rows_do (Retagged change) arrivals rows = retag change rows
rows_do Emptied arrivals rows = []

-- the rows of a queue by its name
abbrev pub rows_at : List ℕ → Plain → List Row
rows_at name p = (stored name p).rows

-- A kind of change spares a row, which is found by its ident.
abbrev pub Spares : RowKind → Ident → Row → Type 0
Spares Same i r = Unit {0}
Spares (Placed lane m) i r = same_ident m.ident i ≡ false
Spares (Kept test) i r = test r ≡ true
Spares (Retagged change) i r = ((x : Row) → (change x).message.ident ≡ x.message.ident) × (change r ≡ r)
Spares Emptied i r = ⊥

abbrev pub SparesAll : List ℕ → List Change → Plain → Ident → Row → Type 0
SparesAll name [] p i r = Unit {0}
SparesAll name (c ∷ cs) p i r = Spares (row_kind name c p) i r × SparesAll name cs (apply c p) i r

-- which rows are meant: none of a batch that hasn't one of the named idents
abbrev pub spared_which : Ident → Which → Bool
spared_which i (Among queue idents) = not (list_any (same_ident i) idents)
spared_which i (HeldBy (ByUnit n)) = true
spared_which i (HeldBy (ByBatch channel)) = false
spared_which i HeldByUnits = true
spared_which i Nonpersistent = false

-- Changes that spare the row of this ident, where a batch holds it: no message of its ident is placed, it isn't named, and
-- neither batches, nor a stop's nonpersistent rows, nor whole queues are meant.
abbrev pub is_gentle : Ident → Change → Bool
is_gentle i (Place queue m) = not (same_ident m.ident i)
is_gentle i (Leave which) = spared_which i which
is_gentle i (Hold which by) = spared_which i which
is_gentle i (Release which counted) = spared_which i which
is_gentle i (Renew queue) = false
is_gentle i (DropQueue queue) = false
is_gentle i _ = true

abbrev pub all_gentle : Ident → List Change → Bool
all_gentle i [] = true
all_gentle i (c ∷ cs) = is_gentle i c && all_gentle i cs
