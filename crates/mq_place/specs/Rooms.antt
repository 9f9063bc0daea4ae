-- Rows that are named, in room that was taken before.
use Rattle.std.specs.Prelude.{ℕ, ◌+◌, ◌-◌, ◌≤◌, List, [], ◌∷◌, ◌++◌, length}
use Rattle.mq_calls.specs.declared.records.Remove.{Remove}

-- rows that are named, and for how many more there is room
pub record RowsKept : Type 0 where
  pub rows : List Remove
  pub room : ℕ

-- one more is named; none is
abbrev pub one_named : Remove → RowsKept → RowsKept
one_named r k = record { rows = k.rows ++ r ∷ []; room = k.room - 1 }

abbrev pub cleared_rows : RowsKept → RowsKept
cleared_rows k = record { rows = []; room = k.room + length k.rows }

-- there is memory for as many rows in all as there was
abbrev pub RoomStays : RowsKept → RowsKept → Type 0
RoomStays old new = old.room + length old.rows ≤ new.room + length new.rows
