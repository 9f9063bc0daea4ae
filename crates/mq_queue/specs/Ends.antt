-- Where a lane ends in rows in order of place, and where the rows behind a place begin.
use Rattle.std.specs.Prelude.{◌≡◌, ℕ, nat_le, true, false, List, Option}
use Rattle.std.specs.List.Sorted.{IsPartitionPoint}
use Rattle.mq_message.specs.declared.place.Place.{Place}
use Rattle.mq_queue.specs.declared.row.Row.{Row}
use Rattle.mq_queue.specs.Rows.{is_after, is_before}

-- the rows before it are of that lane or of one before, and the others of later lanes
abbrev pub IsEndOfLane : ℕ → List Row → ℕ → Type 0
IsEndOfLane lane rows at = IsPartitionPoint (λ (row : Row). nat_le row.place.lane lane ≡ true) (λ (row : Row). nat_le row.place.lane lane ≡ false) rows at

-- the rows before it stand at the place or before it, and the others behind it
abbrev pub IsStartAfter : Option Place → List Row → ℕ → Type 0
IsStartAfter after rows at = IsPartitionPoint (λ (row : Row). is_after after row ≡ false) (λ (row : Row). is_after after row ≡ true) rows at

-- the rows before it stand before the place, and the others do not
abbrev pub IsStartAt : Place → List Row → ℕ → Type 0
IsStartAt place rows at = IsPartitionPoint (λ (row : Row). is_before row.place place ≡ true) (λ (row : Row). is_before row.place place ≡ false) rows at
