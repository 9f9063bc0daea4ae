-- Records of the log as bytes: which values have a spelling, and the one that each has.
use Rattle.std.specs.Prelude.{◌≡◌, ℕ, pos, ◌<◌, ◌^◌, List, [], ◌∷◌, ◌++◌, length}
use Rattle.std.specs.List.{concat, flat_map, AllByRecursion}
use Rattle.byteorder.specs.Endian.{big_bytes}
use Rattle.mq_base.specs.Name.{padded, IsName}
use Rattle.mq_message.specs.declared.message.Ident.{Ident}
use Rattle.mq_message.specs.declared.message.Message.{Message}
use Rattle.mq_frame.specs.Frames.{ident_bytes, message_bytes, flag, IsIdent, IsMessage, HasWords}
use Rattle.mq_calls.specs.from_sync.{End, Unit as Luw}
use Rattle.mq_calls.specs.from_sync.EndVariants as ends
use Rattle.mq_calls.specs.from_objects.{ObjectChange}
use Rattle.mq_calls.specs.from_objects.ObjectChangeVariants as changes
use Rattle.mq_calls.specs.declared.records.Add.{Add}
use Rattle.mq_calls.specs.declared.records.Remove.{Remove}
use Rattle.mq_calls.specs.declared.records.LogRecord.{LogRecord}
use Rattle.mq_calls.specs.declared.records.LogRecord.TheVariants as records
use Rattle.mq_calls.specs.Sizes.{change_text}
use Rattle.mq_record.specs.declared.record.Operation.{Operation}
use Rattle.mq_record.specs.declared.record.Operation.TheVariants.{Set, Delete}
use Rattle.mq_record.specs.declared.record.WrittenRecord.{WrittenRecord}
use Rattle.mq_record.specs.declared.record.WrittenRecord.TheVariants as written

-- ---- parts of records

abbrev pub add_bytes : Add → List ℕ
add_bytes a = concat (padded 48 a.queue ∷ message_bytes a.message ∷ [])

abbrev pub remove_bytes : Remove → List ℕ
remove_bytes r = concat (padded 48 r.queue ∷ ident_bytes r.ident ∷ [])

abbrev pub operation_number : Operation → ℕ
operation_number Set = 1
operation_number Delete = 2

abbrev pub end_number : End → ℕ
end_number ends.Sender = 1
end_number ends.Receiver = 2

-- ---- what a record has in front of its lists, its message or its text, or all of it; first its kind

abbrev pub objects_front : Operation → ℕ → List ℕ
objects_front operation long = concat ((2 ∷ []) ∷ (operation_number operation ∷ []) ∷ big_bytes 4 long ∷ [])

abbrev pub unit_front : ℕ → ℕ → List ℕ
unit_front adds removes = concat ((3 ∷ []) ∷ big_bytes 4 adds ∷ big_bytes 4 removes ∷ [])

abbrev pub prepared_front : List ℕ → Luw → ℕ → List ℕ → ℕ → List ℕ
prepared_front channel unit last queue count = concat ((5 ∷ []) ∷ padded 20 channel ∷ big_bytes 8 unit.session ∷ big_bytes 8 unit.n ∷ big_bytes 4 last ∷ padded 48 queue ∷ big_bytes 4 count ∷ [])

abbrev pub received_front : List ℕ → Luw → ℕ → ℕ → List ℕ
received_front channel unit last adds = concat ((9 ∷ []) ∷ padded 20 channel ∷ big_bytes 8 unit.session ∷ big_bytes 8 unit.n ∷ big_bytes 4 last ∷ big_bytes 4 adds ∷ [])

abbrev pub moved_front : List ℕ → Ident → List ℕ → List ℕ
moved_front from ident to = concat ((11 ∷ []) ∷ padded 48 from ∷ ident_bytes ident ∷ padded 48 to ∷ [])

-- ---- a record

abbrev pub objects_bytes : Operation → List ℕ → List ℕ
objects_bytes operation text = objects_front operation (length text) ++ text

-- a delete is written so, every other change as a set
abbrev pub operation_of : ObjectChange → Operation
operation_of (changes.Set object) = Set
operation_of (changes.SetManager m) = Set
operation_of (changes.Delete subject) = Delete

-- the bytes of a record
abbrev pub record_bytes : LogRecord → List ℕ
record_bytes (records.Started manager name incarnation) = concat ((1 ∷ []) ∷ (manager ∷ []) ∷ padded 48 name ∷ big_bytes 8 incarnation ∷ [])
record_bytes (records.Objects change) = objects_bytes (operation_of change) (change_text change)
record_bytes (records.Unit adds removes) = unit_front (length adds) (length removes) ++ (flat_map add_bytes adds ++ flat_map remove_bytes removes)
record_bytes (records.Session channel partner session) = concat ((4 ∷ []) ∷ padded 20 channel ∷ padded 48 partner ∷ big_bytes 8 session ∷ [])
record_bytes (records.Prepared channel unit last queue idents) = prepared_front channel unit last queue (length idents) ++ flat_map ident_bytes idents
record_bytes (records.Resolved channel unit commit operator) = concat ((6 ∷ []) ∷ padded 20 channel ∷ big_bytes 8 unit.session ∷ big_bytes 8 unit.n ∷ (flag commit ∷ []) ∷ (flag operator ∷ []) ∷ [])
record_bytes (records.Bound channel partner session last) = concat ((7 ∷ []) ∷ padded 20 channel ∷ padded 48 partner ∷ big_bytes 8 session ∷ big_bytes 4 last ∷ [])
record_bytes (records.Closed channel session) = concat ((8 ∷ []) ∷ padded 20 channel ∷ big_bytes 8 session ∷ [])
record_bytes (records.Received channel unit last adds) = received_front channel unit last (length adds) ++ flat_map add_bytes adds
record_bytes (records.SeqSet channel end last) = concat ((10 ∷ []) ∷ padded 20 channel ∷ (end_number end ∷ []) ∷ big_bytes 4 last ∷ [])
record_bytes (records.Moved from ident to message) = moved_front from ident to ++ message_bytes message

-- the bytes of what a body says
abbrev pub body_bytes : WrittenRecord → List ℕ
body_bytes (written.Objects operation text) = objects_bytes operation text
body_bytes (written.Other r) = record_bytes r

-- ---- what has a spelling

-- a channel's name isn't blank
pub record IsChannel (channel : List ℕ) : Type 0 where
  pub name : IsName 20 channel
  pub some : 0 < length channel

pub record IsUnit (unit : Luw) : Type 0 where
  pub session : unit.session < 2 ^ 64
  pub n : unit.n < 2 ^ 64

-- a message in a record is persistent
pub record IsKept (m : Message) : Type 0 where
  pub message : IsMessage m
  pub persistent : m.md.persistence ≡ pos 1

-- what the types don't say of a message that a record may have
pub record CanBeKept (m : Message) : Type 0 where
  pub words : HasWords m
  pub persistent : m.md.persistence ≡ pos 1

pub record IsAdd (a : Add) : Type 0 where
  pub queue : IsName 48 a.queue
  pub message : IsKept a.message

pub record IsRemove (r : Remove) : Type 0 where
  pub queue : IsName 48 r.queue
  pub ident : IsIdent r.ident

-- so many that four bytes count them
pub record AreCounted {T : Type 0} (Is : T → Type 0) (items : List T) : Type 0 where
  pub count : length items < 2 ^ 32
  pub each : AllByRecursion Is items

-- the records that have a spelling: names are names, numbers fit their fields, messages are persistent
abbrev pub IsRecord : LogRecord → Type 0
IsRecord (records.Started manager name incarnation) = (manager < 256) × IsName 48 name × (incarnation < 2 ^ 64)
IsRecord (records.Objects change) = length (change_text change) < 2 ^ 32
IsRecord (records.Unit adds removes) = AreCounted IsAdd adds × AreCounted IsRemove removes
IsRecord (records.Session channel partner session) = IsChannel channel × IsName 48 partner × (session < 2 ^ 64)
IsRecord (records.Prepared channel unit last queue idents) = IsChannel channel × IsUnit unit × (last < 2 ^ 32) × IsName 48 queue × AreCounted IsIdent idents
IsRecord (records.Resolved channel unit commit operator) = IsChannel channel × IsUnit unit
IsRecord (records.Bound channel partner session last) = IsChannel channel × IsName 48 partner × (session < 2 ^ 64) × (last < 2 ^ 32)
IsRecord (records.Closed channel session) = IsChannel channel × (session < 2 ^ 64)
IsRecord (records.Received channel unit last adds) = IsChannel channel × IsUnit unit × (last < 2 ^ 32) × AreCounted IsAdd adds
IsRecord (records.SeqSet channel end last) = IsChannel channel × (last < 2 ^ 32)
IsRecord (records.Moved from ident to message) = IsName 48 from × IsIdent ident × IsName 48 to × IsKept message

-- it doesn't change objects
abbrev pub IsOther : LogRecord → Type 0
IsOther (records.Objects change) = ⊥
IsOther _ = Unit {0}

abbrev pub IsWritten : WrittenRecord → Type 0
IsWritten (written.Objects operation text) = length text < 2 ^ 32
IsWritten (written.Other r) = IsOther r × IsRecord r

-- the body says this
pub record IsBodyOf (w : WrittenRecord) (body : List ℕ) : Type 0 where
  pub is : IsWritten w
  pub whole : body ≡ body_bytes w

-- a record as its body has it
abbrev pub as_written : LogRecord → WrittenRecord
as_written (records.Objects change) = written.Objects (operation_of change) (change_text change)
as_written r = written.Other r
