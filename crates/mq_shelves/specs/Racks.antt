-- The rows of queues by where they stand, as shelves.
use Rattle.std.specs.Prelude.{◌≡◌, ℕ, ◌<◌, Bool, true, false, not, ◌&&◌, List, [], ◌∷◌, if◌then◌else◌, Option, Some, None}
use Rattle.std.specs.Ordering.{nat_cmp, ordering_then, eq_by_cmp}
use Rattle.std.specs.declared.cmp.Ordering.{Ordering}
use Rattle.std.specs.List.{AllByRecursion, IsDistinct, list_any}
use Rattle.std.specs.Map.{keys_of, lookup}
use Rattle.std.specs.BTreeMap.{is_at}
use Rattle.std.specs.Str.{bytes_eq}
use Rattle.mq_message.specs.declared.message.Ident.{Ident}
use Rattle.mq_message.specs.declared.place.Holder.{Holder}
use Rattle.mq_queue.specs.declared.row.Row.{Row}
use Rattle.mq_queue.specs.Rows.{has_ident, held_by, keep, retag}
use Rattle.mq_calls.specs.declared.image.Shelf.{Shelf}
use Rattle.mq_shelves.specs.declared.rack.Stand.{Stand}
use Rattle.mq_shelves.specs.declared.spots.Spot.{Spot}

-- by lane, and then by arrival
abbrev pub stand_cmp : Stand → Stand → Ordering
stand_cmp a b = ordering_then (nat_cmp a.lane b.lane) (nat_cmp a.arrival b.arrival)

-- the rows of one queue in order
abbrev pub rows_of : List (Stand × Row) → List Row
rows_of [] = []
rows_of (e ∷ es) = e.1 ∷ rows_of es

abbrev pub has_none : List (Stand × Row) → Bool
has_none [] = true
has_none (e ∷ es) = false

-- queues with their rows, and what contracts see of them
abbrev pub shelf_of : List ℕ × List (Stand × Row) → Shelf
shelf_of r = record { name = r.0; rows = rows_of r.1 }

abbrev pub shelves_of : List (List ℕ × List (Stand × Row)) → List Shelf
shelves_of [] = []
shelves_of (r ∷ rs) = shelf_of r ∷ shelves_of rs

-- the row at a spot
abbrev pub row_in : Stand → Option (List (Stand × Row)) → Option Row
row_in stand None = None
row_in stand (Some es) = lookup (is_at (stand_cmp stand)) es

abbrev pub row_at : List (List ℕ × List (Stand × Row)) → Spot → Option Row
row_at rs spot = row_in spot.stand (lookup (bytes_eq spot.queue) rs)

-- the rows of a queue that may not be there
abbrev pub or_nothing : Option (List (Stand × Row)) → List (Stand × Row)
or_nothing None = []
or_nothing (Some es) = es

-- a row stands where its ident was noted to stand, in its lane, and came before the next one
pub record Stands (spot : Ident → Option Spot) (next : ℕ) (name : List ℕ) (e : Stand × Row) : Type 0 where
  pub noted : spot e.1.message.ident ≡ Some (record { queue = name; stand = e.0 })
  pub lane : e.0.lane ≡ e.1.place.lane
  pub came : e.0.arrival < next

-- all rows of a queue do, and no two at one place
pub record IsRack (spot : Ident → Option Spot) (next : ℕ) (r : List ℕ × List (Stand × Row)) : Type 0 where
  pub stand : AllByRecursion (Stands spot next r.0) r.1
  pub apart : IsDistinct (eq_by_cmp stand_cmp) (keys_of r.1)

-- of all queues, and no two have one name
pub record AreRacks (spot : Ident → Option Spot) (next : ℕ) (rs : List (List ℕ × List (Stand × Row))) : Type 0 where
  pub each : AllByRecursion (IsRack spot next) rs
  pub named : IsDistinct bytes_eq (keys_of rs)

-- whether a row with an ident passes a test of its queue's name and of itself
abbrev pub any_row : (List ℕ → Row → Bool) → Ident → List Shelf → Bool
any_row test ident ss = list_any (λ (s : Shelf). list_any (λ (row : Row). test s.name row && has_ident ident row) s.rows) ss

-- the row with an ident is held so
abbrev pub tagged : Ident → Option Holder → Shelf → Shelf
tagged ident by s = record s { rows = retag (λ (row : Row). if has_ident ident row then record row { by = by } else row) s.rows }

-- the row with an ident goes, or is free again, where that one holds it
abbrev pub less_held : Holder → Ident → Shelf → Shelf
less_held by ident s = record s { rows = keep (λ (row : Row). not (held_by by row.by && has_ident ident row)) s.rows }

abbrev pub freed_held : Holder → Ident → Shelf → Shelf
freed_held by ident s = record s { rows = retag (λ (row : Row). if held_by by row.by && has_ident ident row then record row { by = None } else row) s.rows }

-- where a row with an ident stands
abbrev pub standing_if : Ident → Spot → Option Row → Option Spot
standing_if ident spot None = None
standing_if ident spot (Some row) = if has_ident ident row then Some spot else None

abbrev pub standing : List (List ℕ × List (Stand × Row)) → Ident → Option Spot → Option Spot
standing rs ident None = None
standing rs ident (Some spot) = standing_if ident spot (row_at rs spot)
