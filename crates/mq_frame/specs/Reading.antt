-- Reading from left to right: a value and the bytes behind it, or why there is none.
use Rattle.std.specs.Prelude.{◌≡◌, ℕ, ◌+◌, ◌-◌, ◌^◌, ◌<◌, List, ◌∷◌, [], ◌++◌, Option, Some, None, Result, Ok, Err, length, take, drop, replicate, slice_index, nat_lt, nat_le, ◌&&◌, ◌==◌, if◌then◌else◌}
use Rattle.byteorder.specs.Endian.{big_number, big_bytes}
use Rattle.mq_message.specs.from_base.Name.{is_name_byte}
use Rattle.mq_message.specs.declared.message.Ident.{Ident}
use Rattle.mq_message.specs.declared.message.Dest.{Dest}
use Rattle.mq_message.specs.declared.message.Md.{Md}
use Rattle.mq_message.specs.declared.message.Message.{Message}
use Rattle.mq_frame.specs.declared.fault.Miss.{Miss}
use Rattle.mq_frame.specs.declared.fault.Miss.TheVariants.{Short, Wrong}
use Rattle.mq_frame.specs.declared.fault.Stop.{Stop}
use Rattle.mq_frame.specs.declared.fault.Stop.TheVariants as stops
use Rattle.mq_frame.specs.declared.frame.Frame.{Frame}
use Rattle.mq_frame.specs.declared.frame.FrameKind.{FrameKind}
use Rattle.mq_frame.specs.declared.frame.FrameKind.TheVariants as kinds
use Rattle.mq_frame.specs.declared.shape.FrameShape.{FrameShape}
use Rattle.mq_frame.specs.declared.shape.FrameShape.TheVariants as shapes
use Rattle.mq_message.specs.Descriptor.{md_in}
use Rattle.mq_frame.specs.Frames.{most_body}

infixl 10 ◌>>=◌
abbrev pub ◌>>=◌ : {A B : Type 0} → Result A Miss → (A → Result B Miss) → Result B Miss
(Ok x) >>= f = f x
(Err e) >>= f = Err e

-- each is a byte
abbrev pub IsBytes : List ℕ → Type 0
IsBytes bytes = (i : ℕ) → slice_index bytes i < 256

-- one byte of a range
abbrev pub byte_at : ℕ → ℕ → List ℕ → Result (ℕ × List ℕ) Miss
byte_at low high [] = Err Short
byte_at low high (byte ∷ bytes) = if nat_le low byte && nat_le byte high then Ok (byte, bytes) else Err (Wrong (length (byte ∷ bytes)))

-- just these bytes
abbrev pub fixed_at : List ℕ → List ℕ → Result (Unit {0} × List ℕ) Miss
fixed_at [] bytes = Ok (tt, bytes)
fixed_at (w ∷ ws) bytes = do
  byte ← byte_at w w bytes
  fixed_at ws byte.1

-- a number of so many bytes
abbrev pub number_at : ℕ → List ℕ → Result (ℕ × List ℕ) Miss
number_at width bytes = if nat_lt (length bytes) width then Err Short else Ok (big_number width bytes, drop width bytes)

-- a number of four bytes above 0
abbrev pub positive : ℕ → List ℕ → Result (ℕ × List ℕ) Miss
positive number rest = if number == 0 then Err (Wrong (length rest + 1)) else Ok (number, rest)

unfoldable pub positive_at : List ℕ → Result (ℕ × List ℕ) Miss
positive_at bytes = do
  number ← number_at 4 bytes
  positive number.0 number.1

-- so many bytes
abbrev pub piece_at : ℕ → List ℕ → Result (List ℕ × List ℕ) Miss
piece_at width bytes = if nat_lt (length bytes) width then Err Short else Ok (take width bytes, drop width bytes)

-- the bytes of a name at the front, at most so many
abbrev pub name_front : ℕ → List ℕ → List ℕ
name_front most [] = []
name_front most (byte ∷ bytes) = if nat_lt 0 most && is_name_byte byte then byte ∷ name_front (most - 1) bytes else []

-- a name, and blanks up to its field's end
unfoldable pub name_at : List ℕ → Result (List ℕ × List ℕ) Miss
name_at bytes = do
  blanks ← fixed_at (replicate (48 - length (name_front 48 bytes)) 32) (drop (length (name_front 48 bytes)) bytes)
  Ok (name_front 48 bytes, blanks.1)

unfoldable pub dest_at : List ℕ → Result (Dest × List ℕ) Miss
dest_at bytes = do
  queue ← name_at bytes
  qmgr ← name_at queue.1
  Ok (record { queue = queue.0; qmgr = qmgr.0 }, qmgr.1)

unfoldable pub ident_at : List ℕ → Result (Ident × List ℕ) Miss
ident_at bytes = do
  manager ← byte_at 0 255 bytes
  incarnation ← number_at 8 manager.1
  number ← number_at 8 incarnation.1
  Ok (record { manager = manager.0; incarnation = incarnation.0; number = number.0 }, number.1)

abbrev pub deadline_of : ℕ → Option ℕ
deadline_of number = if number == 2 ^ 64 - 1 then None else Some number

unfoldable pub deadline_at : List ℕ → Result (Option ℕ × List ℕ) Miss
deadline_at bytes = do
  number ← number_at 8 bytes
  Ok (deadline_of number.0, number.1)

-- the id and the version that a descriptor begins with
abbrev pub md_head : List ℕ
md_head = 77 ∷ 68 ∷ 32 ∷ 32 ∷ 0 ∷ 0 ∷ 0 ∷ 1 ∷ []

unfoldable pub md_at : List ℕ → Result (Md × List ℕ) Miss
md_at bytes = do
  head ← fixed_at md_head bytes
  fields ← piece_at 316 head.1
  Ok (md_in (md_head ++ fields.0), fields.1)

-- a message without a route whose body is so long
unfoldable pub message_at : ℕ → List ℕ → Result (Message × List ℕ) Miss
message_at length bytes = do
  ident ← ident_at bytes
  md ← md_at ident.1
  deadline ← deadline_at md.1
  route ← fixed_at (0 ∷ []) deadline.1
  counted ← fixed_at (big_bytes 4 length) route.1
  body ← piece_at length counted.1
  Ok (record { ident = ident.0; md = md.0; route = None; deadline = deadline.0; body = body.0 }, body.1)

-- ---- a frame's length says its kind, and of a message how long the body is

abbrev pub shape_of : ℕ → Option FrameShape
shape_of length =
    if length == 22 then Some shapes.Bind else (if length == 37 then Some shapes.Status else (if length == 33 then Some shapes.End else (if length == 25 then Some shapes.Ack else (if length == 29 then Some shapes.Err else (if nat_le 483 length && nat_le length (483 + most_body) then Some (shapes.Msg (length - 483)) else None)))))

-- the highest third byte of a length behind a second one
abbrev pub third_most : ℕ → ℕ
third_most second = if second == 64 then 1 else 255

abbrev pub shaped : Option FrameShape → List ℕ → Result (FrameShape × List ℕ) Miss
shaped None rest = Err (Wrong (length rest + 1))
shaped (Some shape) rest = Ok (shape, rest)

-- the last byte of a length
abbrev pub last_at : ℕ → ℕ → ℕ → List ℕ → Result (FrameShape × List ℕ) Miss
last_at first second third [] = Err Short
last_at first second third (last ∷ rest) = shaped (shape_of (big_number 4 (first ∷ second ∷ third ∷ last ∷ []))) rest

unfoldable pub shape_at : List ℕ → Result (FrameShape × List ℕ) Miss
shape_at bytes = do
  first ← byte_at 0 0 bytes
  second ← byte_at 0 64 first.1
  third ← byte_at 0 (third_most second.0) second.1
  last_at first.0 second.0 third.0 third.1

abbrev pub shape_number : FrameShape → ℕ
shape_number shapes.Bind = 1
shape_number shapes.Status = 2
shape_number (shapes.Msg length) = 3
shape_number shapes.End = 4
shape_number shapes.Ack = 5
shape_number shapes.Err = 6

-- the fields of each kind
unfoldable pub bind_at : List ℕ → Result (FrameKind × List ℕ) Miss
bind_at bytes = do
  last ← number_at 4 bytes
  force ← byte_at 0 1 last.1
  Ok (kinds.Bind last.0 (force.0 == 1), force.1)

unfoldable pub status_at : List ℕ → Result (FrameKind × List ℕ) Miss
status_at bytes = do
  session ← number_at 8 bytes
  n ← number_at 8 session.1
  last ← number_at 4 n.1
  Ok (kinds.Status session.0 n.0 last.0, last.1)

unfoldable pub msg_at : ℕ → List ℕ → Result (FrameKind × List ℕ) Miss
msg_at length bytes = do
  n ← number_at 8 bytes
  index ← positive_at n.1
  number ← number_at 4 index.1
  dest ← dest_at number.1
  message ← message_at length dest.1
  Ok (kinds.Msg n.0 index.0 number.0 dest.0 message.0, message.1)

unfoldable pub end_at : List ℕ → Result (FrameKind × List ℕ) Miss
end_at bytes = do
  n ← number_at 8 bytes
  count ← positive_at n.1
  last ← number_at 4 count.1
  Ok (kinds.End n.0 count.0 last.0, last.1)

unfoldable pub ack_at : List ℕ → Result (FrameKind × List ℕ) Miss
ack_at bytes = do
  n ← number_at 8 bytes
  Ok (kinds.Ack n.0, n.1)

unfoldable pub err_at : List ℕ → Result (FrameKind × List ℕ) Miss
err_at bytes = do
  n ← number_at 8 bytes
  reason ← number_at 4 n.1
  Ok (kinds.Err n.0 reason.0, reason.1)

abbrev pub kind_at : FrameShape → List ℕ → Result (FrameKind × List ℕ) Miss
kind_at shapes.Bind bytes = bind_at bytes
kind_at shapes.Status bytes = status_at bytes
kind_at (shapes.Msg length) bytes = msg_at length bytes
kind_at shapes.End bytes = end_at bytes
kind_at shapes.Ack bytes = ack_at bytes
kind_at shapes.Err bytes = err_at bytes

unfoldable pub frame_at : List ℕ → Result (Frame × List ℕ) Miss
frame_at bytes = do
  shape ← shape_at bytes
  number ← fixed_at (shape_number shape.0 ∷ []) shape.1
  stamp ← number_at 8 number.1
  session ← number_at 8 stamp.1
  kind ← kind_at shape.0 session.1
  Ok (record { stamp = stamp.0; session = session.0; kind = kind.0 }, kind.1)

-- ---- what the code answers

-- what a function returned, seen by view, is what reading gives
abbrev pub Same : {X Y : Type 0} → (X → Y) → Result X Miss → Result Y Miss → Type 0
Same view (Ok x) read = read ≡ Ok (view x)
Same view (Err e) read = read ≡ Err e

-- the same, unless memory ran out
abbrev pub Stops : {Y : Type 0} → Stop → Result Y Miss → Type 0
Stops stops.NoMemory read = Unit {0}
Stops (stops.Miss e) read = read ≡ Err e

abbrev pub Gives : {X Y : Type 0} → (X → Y) → Result X Stop → Result Y Miss → Type 0
Gives view (Ok x) read = read ≡ Ok (view x)
Gives view (Err e) read = Stops e read
