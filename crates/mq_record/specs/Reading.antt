-- Reading a record from left to right: a value and the bytes behind it, or why there is none.
use Rattle.std.specs.Prelude.{ℕ, zero, suc, pos, Bool, List, [], ◌∷◌, Option, Some, None, Result, Ok, Err, length, nat_le, ◌==◌, if◌then◌else◌}
use Rattle.std.specs.Ordering.{int_eq}
use Rattle.std.specs.Str.{bytes_eq}
use Rattle.mq_base.specs.Name.{padded, name_of}
use Rattle.mq_base.specs.declared.fault.NameFault.{NameFault}
use Rattle.mq_message.specs.declared.message.Ident.{Ident}
use Rattle.mq_message.specs.declared.message.Dest.{Dest}
use Rattle.mq_message.specs.declared.message.Md.{Md}
use Rattle.mq_message.specs.declared.message.Message.{Message}
use Rattle.mq_frame.specs.declared.fault.Miss.{Miss}
use Rattle.mq_frame.specs.declared.fault.Miss.TheVariants.{Wrong}
use Rattle.mq_frame.specs.Frames.{most_body}
use Rattle.mq_frame.specs.Reading.{◌>>=◌, byte_at, number_at, piece_at, name_at, dest_at, ident_at, deadline_at, md_at}
use Rattle.mq_calls.specs.from_sync.{End, Unit as Luw}
use Rattle.mq_calls.specs.from_sync.EndVariants as ends
use Rattle.mq_calls.specs.declared.records.Add.{Add}
use Rattle.mq_calls.specs.declared.records.Remove.{Remove}
use Rattle.mq_calls.specs.declared.records.LogRecord.TheVariants as records
use Rattle.mq_record.specs.declared.record.Operation.{Operation}
use Rattle.mq_record.specs.declared.record.Operation.TheVariants.{Set, Delete}
use Rattle.mq_record.specs.declared.record.WrittenRecord.{WrittenRecord}
use Rattle.mq_record.specs.declared.record.WrittenRecord.TheVariants as written
use Rattle.mq_record.specs.declared.fault.BodyFault.{BodyFault}
use Rattle.mq_record.specs.declared.fault.BodyFault.TheVariants.{NoRecord, NoMemory}
use Rattle.mq_record.specs.Records.{IsBodyOf}

-- one field and then others; no field
abbrev pub both : {A B : Type 0} → (List ℕ → Result (A × List ℕ) Miss) → (List ℕ → Result (B × List ℕ) Miss) → List ℕ → Result ((A × B) × List ℕ) Miss
both first others bytes = do
  a ← first bytes
  b ← others a.1
  Ok ((a.0, b.0), b.1)

abbrev pub no_more : List ℕ → Result (Unit {0} × List ℕ) Miss
no_more bytes = Ok (tt, bytes)

-- ---- fields

-- the bytes in front of the first blank
abbrev pub word_of : List ℕ → List ℕ
word_of [] = []
word_of (byte ∷ bytes) = if byte == 32 then [] else byte ∷ word_of bytes

-- a channel's name, where it fills its field
abbrev pub channel_in : List ℕ → List ℕ → Result (List ℕ) NameFault → Result (List ℕ × List ℕ) Miss
channel_in field rest (Ok name) = if bytes_eq (padded 20 name) field then Ok (name, rest) else Err (Wrong (length rest))
channel_in field rest (Err fault) = Err (Wrong (length rest))

unfoldable pub channel_at : List ℕ → Result (List ℕ × List ℕ) Miss
channel_at bytes = do
  field ← piece_at 20 bytes
  channel_in field.0 field.1 (name_of 20 (word_of field.0))

unfoldable pub unit_at : List ℕ → Result (Luw × List ℕ) Miss
unit_at bytes = do
  x ← both (number_at 8) (both (number_at 8) no_more) bytes
  Ok (record { session = x.0.0; n = x.0.1.0 }, x.1)

-- what stands for 1 or for another number
unfoldable pub flag_at : List ℕ → Result (Bool × List ℕ) Miss
flag_at bytes = do
  number ← byte_at 0 1 bytes
  Ok (number.0 == 1, number.1)

unfoldable pub operation_at : List ℕ → Result (Operation × List ℕ) Miss
operation_at bytes = do
  number ← byte_at 1 2 bytes
  Ok ((if number.0 == 1 then Set else Delete), number.1)

unfoldable pub end_at : List ℕ → Result (End × List ℕ) Miss
end_at bytes = do
  number ← byte_at 1 2 bytes
  Ok ((if number.0 == 1 then ends.Sender else ends.Receiver), number.1)

unfoldable pub text_at : List ℕ → Result (List ℕ × List ℕ) Miss
text_at bytes = do
  long ← number_at 4 bytes
  piece_at long.0 long.1

-- ---- a message

-- the descriptor of a persistent message
abbrev pub persistent : Md → List ℕ → Result (Md × List ℕ) Miss
persistent md rest = if int_eq md.persistence (pos 1) then Ok (md, rest) else Err (Wrong (length rest))

unfoldable pub kept_md_at : List ℕ → Result (Md × List ℕ) Miss
kept_md_at bytes = do
  md ← md_at bytes
  persistent md.0 md.1

abbrev pub routed_if : ℕ → List ℕ → Result (Option Dest × List ℕ) Miss
routed_if zero rest = Ok (None, rest)
routed_if (suc more) rest = do
  dest ← dest_at rest
  Ok (Some dest.0, dest.1)

unfoldable pub route_at : List ℕ → Result (Option Dest × List ℕ) Miss
route_at bytes = do
  number ← byte_at 0 1 bytes
  routed_if number.0 number.1

-- a body no longer than the longest
unfoldable pub body_at : List ℕ → Result (List ℕ × List ℕ) Miss
body_at bytes = do
  long ← number_at 4 bytes
  if nat_le long.0 most_body then piece_at long.0 long.1 else Err (Wrong (length long.1))

unfoldable pub message_at : List ℕ → Result (Message × List ℕ) Miss
message_at bytes = do
  x ← both ident_at (both kept_md_at (both deadline_at (both route_at (both body_at no_more)))) bytes
  Ok (record { ident = x.0.0; md = x.0.1.0; route = x.0.1.1.1.0; deadline = x.0.1.1.0; body = x.0.1.1.1.1.0 }, x.1)

unfoldable pub add_at : List ℕ → Result (Add × List ℕ) Miss
add_at bytes = do
  x ← both name_at (both message_at no_more) bytes
  Ok (record { queue = x.0.0; message = x.0.1.0 }, x.1)

unfoldable pub remove_at : List ℕ → Result (Remove × List ℕ) Miss
remove_at bytes = do
  x ← both name_at (both ident_at no_more) bytes
  Ok (record { queue = x.0.0; ident = x.0.1.0 }, x.1)

-- ---- lists

-- so many, one behind the other
unfoldable pub several_at : {A : Type 0} → (List ℕ → Result (A × List ℕ) Miss) → ℕ → List ℕ → Result (List A × List ℕ) Miss
several_at one zero bytes = Ok ([], bytes)
several_at one (suc n) bytes = do
  first ← one bytes
  others ← several_at one n first.1
  Ok (first.0 ∷ others.0, others.1)

-- as many as a number of four bytes says
unfoldable pub idents_at : List ℕ → Result (List Ident × List ℕ) Miss
idents_at bytes = do
  count ← number_at 4 bytes
  several_at ident_at count.0 count.1

unfoldable pub adds_at : List ℕ → Result (List Add × List ℕ) Miss
adds_at bytes = do
  count ← number_at 4 bytes
  several_at add_at count.0 count.1

-- ---- a record, behind its kind

abbrev pub Read : Type 0
Read = Result (WrittenRecord × List ℕ) Miss

unfoldable pub started_at : List ℕ → Read
started_at bytes = do
  x ← both (byte_at 0 255) (both name_at (both (number_at 8) no_more)) bytes
  Ok (written.Other (records.Started x.0.0 x.0.1.0 x.0.1.1.0), x.1)

unfoldable pub objects_at : List ℕ → Read
objects_at bytes = do
  x ← both operation_at (both text_at no_more) bytes
  Ok (written.Objects x.0.0 x.0.1.0, x.1)

-- both counts stand in front of both lists
unfoldable pub changes_at : List ℕ → Read
changes_at bytes = do
  adds ← number_at 4 bytes
  removes ← number_at 4 adds.1
  x ← both (several_at add_at adds.0) (both (several_at remove_at removes.0) no_more) removes.1
  Ok (written.Other (records.Unit x.0.0 x.0.1.0), x.1)

unfoldable pub session_at : List ℕ → Read
session_at bytes = do
  x ← both channel_at (both name_at (both (number_at 8) no_more)) bytes
  Ok (written.Other (records.Session x.0.0 x.0.1.0 x.0.1.1.0), x.1)

unfoldable pub prepared_at : List ℕ → Read
prepared_at bytes = do
  x ← both channel_at (both unit_at (both (number_at 4) (both name_at (both idents_at no_more)))) bytes
  Ok (written.Other (records.Prepared x.0.0 x.0.1.0 x.0.1.1.0 x.0.1.1.1.0 x.0.1.1.1.1.0), x.1)

unfoldable pub resolved_at : List ℕ → Read
resolved_at bytes = do
  x ← both channel_at (both unit_at (both flag_at (both flag_at no_more))) bytes
  Ok (written.Other (records.Resolved x.0.0 x.0.1.0 x.0.1.1.0 x.0.1.1.1.0), x.1)

unfoldable pub bound_at : List ℕ → Read
bound_at bytes = do
  x ← both channel_at (both name_at (both (number_at 8) (both (number_at 4) no_more))) bytes
  Ok (written.Other (records.Bound x.0.0 x.0.1.0 x.0.1.1.0 x.0.1.1.1.0), x.1)

unfoldable pub closed_at : List ℕ → Read
closed_at bytes = do
  x ← both channel_at (both (number_at 8) no_more) bytes
  Ok (written.Other (records.Closed x.0.0 x.0.1.0), x.1)

unfoldable pub received_at : List ℕ → Read
received_at bytes = do
  x ← both channel_at (both unit_at (both (number_at 4) (both adds_at no_more))) bytes
  Ok (written.Other (records.Received x.0.0 x.0.1.0 x.0.1.1.0 x.0.1.1.1.0), x.1)

unfoldable pub seq_set_at : List ℕ → Read
seq_set_at bytes = do
  x ← both channel_at (both end_at (both (number_at 4) no_more)) bytes
  Ok (written.Other (records.SeqSet x.0.0 x.0.1.0 x.0.1.1.0), x.1)

unfoldable pub moved_at : List ℕ → Read
moved_at bytes = do
  x ← both name_at (both ident_at (both name_at (both message_at no_more))) bytes
  Ok (written.Other (records.Moved x.0.0 x.0.1.0 x.0.1.1.0 x.0.1.1.1.0), x.1)

abbrev pub kind_at : ℕ → List ℕ → Read
kind_at kind bytes =
    if kind == 1 then started_at bytes else (if kind == 2 then objects_at bytes else (if kind == 3 then changes_at bytes else (if kind == 4 then session_at bytes else (if kind == 5 then prepared_at bytes else (if kind == 6 then resolved_at bytes else (if kind == 7 then bound_at bytes else (if kind == 8 then closed_at bytes else (if kind == 9 then received_at bytes else (if kind == 10 then seq_set_at bytes else (if kind == 11 then moved_at bytes else Err (Wrong (length bytes))))))))))))

unfoldable pub record_at : List ℕ → Read
record_at bytes = do
  kind ← byte_at 1 11 bytes
  kind_at kind.0 kind.1

-- ---- what the code answers

-- the record that the body is, or that it is none; of want of memory nothing
abbrev pub Tells : List ℕ → Result WrittenRecord BodyFault → Type 0
Tells body (Ok w) = IsBodyOf w body
Tells body (Err NoRecord) = (w : WrittenRecord) → IsBodyOf w body → ⊥
Tells body (Err NoMemory) = Unit {0}
