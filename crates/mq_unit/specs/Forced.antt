-- What a unit forces into the log at its end.
use Rattle.std.specs.Prelude.{◌≡◌, ℕ, ◌+◌, ◌<◌, ◌≤◌, ◌^◌, Bool, true, false, List, [], length, sum_by, Option, Some, None}
use Rattle.std.specs.List.{AllByRecursion, flat_map}
use Rattle.mq_record.specs.from_calls.Words.{is_persistent, item_bytes, add_size, need}
use Rattle.mq_record.specs.from_calls.{Item, LogRecord}
use Rattle.mq_record.specs.from_calls.LogRecordVariants as records
use Rattle.mq_record.specs.from_calls.ItemVariants.{Put, Take}
use Rattle.mq_spec_manager.specs.Units.{adds_of, removes_of}
use Rattle.mq_record.specs.Records.{CanBeKept, add_bytes, remove_bytes}
use Rattle.mq_unit.specs.Told.{Telling}
use Rattle.mq_unit.specs.declared.unit.Ended.{Ended}

-- the bytes of the items in the record
abbrev pub items_bytes : List Item → ℕ
items_bytes items = sum_by item_bytes items

-- the record of a unit; one of no persistent item is never written
abbrev pub unit_record : List Item → LogRecord
unit_record items = records.Unit (adds_of items) (removes_of items)

-- a persistent put; a persistent row that is held
abbrev pub is_add : Item → Bool
is_add (Put queue message) = is_persistent message
is_add (Take queue ident persistent) = false

abbrev pub is_remove : Item → Bool
is_remove (Put queue message) = false
is_remove (Take queue ident persistent) = persistent

-- the adds and removes of items, as they stand in a record
abbrev pub adds_size : List Item → ℕ
adds_size items = sum_by add_size (adds_of items)

abbrev pub adds_bytes : List Item → List ℕ
adds_bytes items = flat_map add_bytes (adds_of items)

abbrev pub removes_bytes : List Item → List ℕ
removes_bytes items = flat_map remove_bytes (removes_of items)

-- what the types don't say of the items of a unit whose record is written
abbrev pub ItemCanBeForced : Item → Type 0
ItemCanBeForced (Put queue message) = is_persistent message ≡ true → CanBeKept message
ItemCanBeForced (Take queue ident persistent) = Unit {0}

abbrev pub CanBeForced : List Item → Type 0
CanBeForced items = AllByRecursion ItemCanBeForced items

-- the bytes are counted and fit, and there is room for what the unit's end tells
pub record IsKept (items : List Item) (bytes : ℕ) (effects : Telling) : Type 0 where
  pub counted : bytes ≡ items_bytes items
  pub fits : 14 + bytes < 2 ^ 64
  pub untold : effects.dids ≡ []
  pub room : length items ≤ effects.room
  pub forced : CanBeForced items

-- what a record takes of the log; nothing where there is none
abbrev pub need_of : Option LogRecord → ℕ
need_of None = 0
need_of (Some r) = need r

-- what a unit was, and room for what its end tells
pub record IsEnded (unit : List Item) (ended : Ended) : Type 0 where
  pub items : ended.items ≡ unit
  pub untold : ended.effects.dids ≡ []
  pub room : length unit ≤ ended.effects.room
