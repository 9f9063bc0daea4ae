-- The record of a receiver's commit.
use Rattle.std.specs.Prelude.{◌≡◌, ℕ, Bool, true, List, flat_map, sum_by}
use Rattle.mq_calls.specs.Words.{is_persistent, add_size}
use Rattle.mq_record.specs.Records.{CanBeKept, add_bytes}
use Rattle.mq_core.specs.declared.parts.Arrival.{Arrival}
use Rattle.mq_core.specs.Writes.{arrival_adds}

-- a message that lasts can stand in a record
abbrev pub CanStand : Arrival → Type 0
CanStand a = is_persistent a.message ≡ true → CanBeKept a.message

abbrev pub is_lasting : Arrival → Bool
is_lasting a = is_persistent a.message

-- what the messages that last take, and their bytes
abbrev pub adds_size : List Arrival → ℕ
adds_size landed = sum_by add_size (flat_map arrival_adds landed)

abbrev pub adds_bytes : List Arrival → List ℕ
adds_bytes landed = flat_map add_bytes (flat_map arrival_adds landed)
