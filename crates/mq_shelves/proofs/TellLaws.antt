-- Shelves that are given out one after another.
use Rattle.std.proofs.Common.{◌≡◌, ℕ, ◌<◌, List, [], ◌∷◌, ◌++◌, length, refl, sym, ap, ◌∙◌, arith}
use Rattle.mq_queue.specs.declared.row.Row.{Row}
use Rattle.mq_calls.specs.declared.image.Shelf.{Shelf}
use Rattle.mq_shelves.specs.declared.slots.Slot.{Slot}
use Rattle.mq_shelves.specs.Racks.{rows_of, shelves_of}
use Rattle.mq_shelves.specs.Slots.{slot_entries}

abbrev rows_shelf : List ℕ → List Row → Shelf
rows_shelf name rows = record { name = name; rows = rows }

one_moves : (ss : List Shelf) (s : Shelf) (more : List Shelf) → (ss ++ s ∷ []) ++ more ≡ ss ++ s ∷ more
one_moves [] s more = refl
one_moves (x ∷ ss) s more = ap (λ (ys : List Shelf). x ∷ ys) (one_moves ss s more)

pub shelf_told : (left new : List (ℕ × Slot)) (e : ℕ × Slot) (rows : List Row) (shelves all : List Shelf) → shelves ++ shelves_of (slot_entries left) ≡ all → left ≡ e ∷ new → rows ≡ rows_of e.1.rack
    → (shelves ++ record { name = e.1.name; rows = rows } ∷ []) ++ shelves_of (slot_entries new) ≡ all
shelf_told left new e rows shelves all so_far is same =
    one_moves shelves (rows_shelf e.1.name rows) (shelves_of (slot_entries new))
    ∙ ap (λ (x : List Row). shelves ++ rows_shelf e.1.name x ∷ shelves_of (slot_entries new)) same
    ∙ ap (λ (es : List (ℕ × Slot)). shelves ++ shelves_of (slot_entries es)) (sym is) ∙ so_far

none_more : (ss : List Shelf) → ss ≡ ss ++ []
none_more [] = refl
none_more (s ∷ ss) = ap (λ (ys : List Shelf). s ∷ ys) (none_more ss)

pub all_told : (left : List (ℕ × Slot)) (shelves all : List Shelf) → shelves ++ shelves_of (slot_entries left) ≡ all → (0 < length left → ⊥) → shelves ≡ all
all_told [] shelves all so_far none = none_more shelves ∙ so_far
all_told (e ∷ es) shelves all so_far none = absurd (none (omega arith))
