-- Frames as bytes: a grammar between lists of frames and lists of bytes.
use Rattle.std.specs.Prelude.{◌≡◌, ℕ, ◌+◌, ◌-◌, ◌<◌, ◌≤◌, ◌^◌, List, [], ◌∷◌, ◌++◌, length, take, slice_index, Option, Some, None, IfSome, Bool, true, false}
use Rattle.std.specs.List.{concat, flat_map, AllByRecursion}
use Rattle.byteorder.specs.Endian.{big_bytes}
use Rattle.mq_message.specs.from_base.Name.{padded, IsName}
use Rattle.mq_message.specs.declared.message.Ident.{Ident}
use Rattle.mq_message.specs.declared.message.Dest.{Dest}
use Rattle.mq_message.specs.declared.message.Md.{Md}
use Rattle.mq_message.specs.declared.message.Message.{Message}
use Rattle.mq_frame.specs.declared.frame.Frame.{Frame}
use Rattle.mq_frame.specs.declared.frame.FrameKind.{FrameKind}
use Rattle.mq_frame.specs.declared.frame.FrameKind.TheVariants as kinds
use Rattle.mq_message.specs.Layout.{AllFit}
use Rattle.mq_message.specs.Descriptor.{md_fields, md_values, md_bytes}

-- ---- a message, in a frame or a record

-- the longest body
abbrev pub most_body : ℕ
most_body = 4194304

unfoldable pub ident_bytes : Ident → List ℕ
ident_bytes i = concat ((i.manager ∷ []) ∷ big_bytes 8 i.incarnation ∷ big_bytes 8 i.number ∷ [])

-- all ones stand for none
unfoldable pub deadline_bytes : Option ℕ → List ℕ
deadline_bytes None = big_bytes 8 (2 ^ 64 - 1)
deadline_bytes (Some moment) = big_bytes 8 moment

unfoldable pub dest_bytes : Dest → List ℕ
dest_bytes d = concat (padded 48 d.queue ∷ padded 48 d.qmgr ∷ [])

-- a flag, and the two names where there is a route
unfoldable pub route_bytes : Option Dest → List ℕ
route_bytes None = 0 ∷ []
route_bytes (Some d) = 1 ∷ dest_bytes d

unfoldable pub message_bytes : Message → List ℕ
message_bytes m = concat (ident_bytes m.ident ∷ md_bytes m.md ∷ deadline_bytes m.deadline ∷ route_bytes m.route ∷ big_bytes 4 (length m.body) ∷ m.body ∷ [])

-- a descriptor's fields have their widths, and hold bytes
pub record IsMd (m : Md) : Type 0 where
  pub fits : AllFit md_fields (md_values m)
  pub bytes : (i : ℕ) → slice_index (md_bytes m) i < 256

pub record IsIdent (i : Ident) : Type 0 where
  pub manager : i.manager < 256
  pub incarnation : i.incarnation < 2 ^ 64
  pub number : i.number < 2 ^ 64

pub record IsDest (d : Dest) : Type 0 where
  pub queue : IsName 48 d.queue
  pub qmgr : IsName 48 d.qmgr

-- the values that have a spelling of their own
pub record IsMessage (m : Message) : Type 0 where
  pub ident : IsIdent m.ident
  pub md : IsMd m.md
  pub deadline : IfSome m.deadline (λ moment. moment < 2 ^ 64 - 1)
  pub route : IfSome m.route IsDest
  pub body : length m.body ≤ most_body

-- ---- a frame

abbrev pub flag : Bool → ℕ
flag true = 1
flag false = 0

-- the number of a kind, and its fields
abbrev pub kind_number : FrameKind → ℕ
kind_number (kinds.Bind last force) = 1
kind_number (kinds.Status session n last) = 2
kind_number (kinds.Msg n index number dest message) = 3
kind_number (kinds.End n count last) = 4
kind_number (kinds.Ack n) = 5
kind_number (kinds.Err n reason) = 6

unfoldable pub fields_bytes : FrameKind → List ℕ
fields_bytes (kinds.Bind last force) = concat (big_bytes 4 last ∷ (flag force ∷ []) ∷ [])
fields_bytes (kinds.Status session n last) = concat (big_bytes 8 session ∷ big_bytes 8 n ∷ big_bytes 4 last ∷ [])
fields_bytes (kinds.Msg n index number dest message) = concat (big_bytes 8 n ∷ big_bytes 4 index ∷ big_bytes 4 number ∷ dest_bytes dest ∷ message_bytes message ∷ [])
fields_bytes (kinds.End n count last) = concat (big_bytes 8 n ∷ big_bytes 4 count ∷ big_bytes 4 last ∷ [])
fields_bytes (kinds.Ack n) = big_bytes 8 n
fields_bytes (kinds.Err n reason) = concat (big_bytes 8 n ∷ big_bytes 4 reason ∷ [])

unfoldable pub content_bytes : Frame → List ℕ
content_bytes f = concat ((kind_number f.kind ∷ []) ∷ big_bytes 8 f.stamp ∷ big_bytes 8 f.session ∷ fields_bytes f.kind ∷ [])

-- the length of what follows, and what follows
unfoldable pub frame_bytes : Frame → List ℕ
frame_bytes f = big_bytes 4 (length (content_bytes f)) ++ content_bytes f

abbrev pub IsKind : FrameKind → Type 0
IsKind (kinds.Bind last force) = last < 2 ^ 32
IsKind (kinds.Status session n last) = (session < 2 ^ 64) × (n < 2 ^ 64) × (last < 2 ^ 32)
IsKind (kinds.Msg n index number dest message) = (n < 2 ^ 64) × (0 < index) × (index < 2 ^ 32) × (number < 2 ^ 32) × IsDest dest × IsMessage message × (message.route ≡ None)
IsKind (kinds.End n count last) = (n < 2 ^ 64) × (0 < count) × (count < 2 ^ 32) × (last < 2 ^ 32)
IsKind (kinds.Ack n) = n < 2 ^ 64
IsKind (kinds.Err n reason) = (n < 2 ^ 64) × (reason < 2 ^ 32)

-- the frames that there are: an index and a count are from 1, a message has no route, no deadline of all ones
-- and no body above the longest
pub record IsFrame (f : Frame) : Type 0 where
  pub stamp : f.stamp < 2 ^ 64
  pub session : f.session < 2 ^ 64
  pub kind : IsKind f.kind

-- what the types don't say of a message that has a spelling: no deadline of all ones, no body above the longest
pub record HasWords (m : Message) : Type 0 where
  pub deadline : IfSome m.deadline (λ moment. moment < 2 ^ 64 - 1)
  pub body : length m.body ≤ most_body

-- what the types don't say of a frame of that kind: an index and a count are from 1, a message has no route
abbrev pub HasSpelling : FrameKind → Type 0
HasSpelling (kinds.Bind last force) = Unit {0}
HasSpelling (kinds.Status session n last) = Unit {0}
HasSpelling (kinds.Msg n index number dest message) = (0 < index) × HasWords message × (message.route ≡ None)
HasSpelling (kinds.End n count last) = 0 < count
HasSpelling (kinds.Ack n) = Unit {0}
HasSpelling (kinds.Err n reason) = Unit {0}

-- ---- a stream

-- the bytes are these frames, one after the other
pub record AreFrames (frames : List Frame) (bytes : List ℕ) : Type 0 where
  pub each : AllByRecursion IsFrame frames
  pub whole : bytes ≡ flat_map frame_bytes frames

-- some continuation of the bytes is a list of frames
abbrev pub MayGoOn : List ℕ → Type 0
MayGoOn bytes = (frames : List Frame) × (more : List ℕ) × AreFrames frames (bytes ++ more)

-- the first byte after which no continuation is a list of frames
pub record IsBadAt (bytes : List ℕ) (place : ℕ) : Type 0 where
  pub within : place < length bytes
  pub before : MayGoOn (take place bytes)
  pub after : MayGoOn (take (place + 1) bytes) → ⊥

-- nothing or a part of a frame, which may still become one
pub record IsPartial (bytes : List ℕ) : Type 0 where
  pub frame : Frame
  pub next : ℕ
  pub more : List ℕ
  pub is : IsFrame frame
  pub begins : frame_bytes frame ≡ bytes ++ next ∷ more

-- the bytes are these frames and then a part of one
pub record IsCut (bytes : List ℕ) (frames : List Frame) (rest : List ℕ) : Type 0 where
  pub each : AllByRecursion IsFrame frames
  pub whole : bytes ≡ flat_map frame_bytes frames ++ rest
  pub partial : IsPartial rest
