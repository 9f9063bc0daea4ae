-- What a queue is, and what its calls do: a row is placed last in its lane, rows are kept, rows are retagged.
use Rattle.std.specs.Prelude.{◌≡◌, ℕ, ◌≤◌, ◌&&◌, not, Bool, true, false, List, [], ◌∷◌, length, count_by, if◌then◌else◌, Option, Some, None, find, ℤ, pos, ◌+ℤ◌}
use Rattle.std.specs.List.{AllByRecursion}
use Rattle.std.specs.Option.{option_map}
use Rattle.std.specs.Int.{w32, saturate_signed}
use Rattle.mq_message.specs.declared.message.Ident.{Ident}
use Rattle.mq_message.specs.declared.message.Message.{Message}
use Rattle.mq_message.specs.declared.place.Place.{Place}
use Rattle.mq_message.specs.declared.place.Want.{Want}
use Rattle.mq_message.specs.declared.place.Holder.{Holder}
use Rattle.mq_queue.specs.declared.row.Row.{Row}
use Rattle.mq_queue.specs.Lanes.{lane_at}
use Rattle.mq_queue.specs.Rows.{has_ident, is_free, is_before, is_after, is_wanted, same_place, is_persistent, has_priority, is_by_unit}

-- no row has the ident
abbrev pub Lacks : Ident → List Row → Type 0
Lacks ident rows = AllByRecursion (λ (row : Row). has_ident ident row ≡ false) rows

-- no two rows have one ident
abbrev pub AreDistinct : List Row → Type 0
AreDistinct [] = Unit {0}
AreDistinct (row ∷ rows) = Lacks row.message.ident rows × AreDistinct rows

-- all rows stand behind a place
abbrev pub AllBehind : Place → List Row → Type 0
AllBehind place rows = AllByRecursion (λ (row : Row). is_before place row.place ≡ true) rows

-- each row stands before those after it
abbrev pub AreInOrder : List Row → Type 0
AreInOrder [] = Unit {0}
AreInOrder (row ∷ rows) = AllBehind row.place rows × AreInOrder rows

-- each row came in among the first so many
abbrev pub AreCounted : ℕ → List Row → Type 0
AreCounted arrivals rows = AllByRecursion (λ (row : Row). row.place.arrival ≤ arrivals) rows

-- a list of rows in order of place, each ident at most once
pub record IsQueue (rows : List Row) (arrivals : ℕ) : Type 0 where
  pub distinct : AreDistinct rows
  pub in_order : AreInOrder rows
  pub counted : AreCounted arrivals rows
  pub fits : length rows ≤ arrivals

-- the lane of a message: by its priority, or the one lane of first in, first out
abbrev pub lane_of : Bool → Message → ℕ
lane_of by_priority message = if by_priority then lane_at message.md.priority else 0

-- the row of a message that is the n-th to be inserted
abbrev pub row_of : Bool → Message → ℕ → Row
row_of by_priority message n = record { place = record { lane = lane_of by_priority message; arrival = n }; message = message; by = None }

-- a free row that has the ids asked for
abbrev pub is_fitting : Want → Row → Bool
is_fitting want row = is_free row && is_wanted want row

-- a row that a get may take
abbrev pub is_takable : Want → Option Place → Row → Bool
is_takable want after row = is_free row && (is_after after row && is_wanted want row)

-- the place and the ident of the first free row above a place that has the ids
abbrev pub first_of : Want → Option Place → List Row → Option (Place × Ident)
first_of want after rows = option_map (λ (row : Row). (row.place, row.message.ident)) (find (is_takable want after) rows)

-- the row at a place
abbrev pub is_at : Place → Row → Bool
is_at place row = same_place row.place place

-- a free row of at least this priority
abbrev pub is_waiting : ℕ → Row → Bool
is_waiting least row = is_free row && has_priority least row.message.md.priority

-- how many there are
abbrev pub count_waiting : ℕ → List Row → ℕ
count_waiting least rows = count_by (is_waiting least) rows

-- a row that a stop keeps
abbrev pub is_lasting : Row → Bool
is_lasting row = is_persistent row.message

-- the message with that ident
abbrev pub message_of : Ident → List Row → Option Message
message_of ident rows = option_map (λ (row : Row). row.message) (find (has_ident ident) rows)

-- Rows by their ident.
abbrev pub has_other_ident : Ident → Row → Bool
has_other_ident ident row = not (has_ident ident row)

-- the free row of an ident
abbrev pub is_free_one : Ident → Row → Bool
is_free_one ident row = has_ident ident row && is_free row

-- the held row of an ident
abbrev pub is_held_one : Ident → Row → Bool
is_held_one ident row = has_ident ident row && not (is_free row)

-- the free row with that ident is held
abbrev pub hold_row : Ident → Holder → Row → Row
hold_row ident by row = if is_free_one ident row then record row { by = Some by } else row

-- one more, but not above the field's largest value (this project's choice)
abbrev pub one_more : ℤ → ℤ
one_more count = saturate_signed w32 (count +ℤ pos 1)

-- its BackoutCount is one higher
abbrev pub backed_out_once : Message → Message
backed_out_once message = record message { md = record message.md { backout_count = one_more message.md.backout_count } }

-- a row that is free again, and counts a backout where that is said
abbrev pub freed : Bool → Row → Row
freed backed_out row = record row { message = if backed_out then backed_out_once row.message else row.message; by = None }

-- the held row with that ident is free again
abbrev pub release_row : Ident → Bool → Row → Row
release_row ident backed_out row = if is_held_one ident row then freed backed_out row else row

-- a row that a unit holds is free again, and counts a backout
abbrev pub unit_freed : Row → Row
unit_freed row = if is_by_unit row.by then freed true row else row
