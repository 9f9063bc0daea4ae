-- A decoder: what it has been given, and what it holds of it.
use Rattle.std.specs.Prelude.{◌≡◌, ℕ, ◌-◌, ◌^◌, ◌<◌, ◌≤◌, List, ◌++◌, length, min, Option, None, Some}
use Rattle.std.specs.List.{flat_map}
use Rattle.mq_frame.specs.declared.fault.Miss.TheVariants.{Short, Wrong}
use Rattle.mq_frame.specs.declared.fault.Stop.{Stop}
use Rattle.mq_frame.specs.declared.fault.Stop.TheVariants as stops
use Rattle.mq_frame.specs.declared.frame.Frame.{Frame}
use Rattle.mq_frame.specs.declared.frame.FrameFault.{FrameFault}
use Rattle.mq_frame.specs.declared.frame.FrameFault.TheVariants.{BadFrame, NoMemory}
use Rattle.mq_frame.specs.Frames.{frame_bytes, IsBadAt, IsPartial, IsCut}

-- the bytes of a frame that isn't whole yet, the number of bytes before them since the last reset, and the
-- place where the bytes went wrong
pub record Decoding : Type 0 where
  pub held : List ℕ
  pub before : ℕ
  pub broken : Option ℕ

-- a number of bytes as it is counted: at most the last that 64 bits hold
abbrev pub counted : ℕ → ℕ
counted n = min n (2 ^ 64 - 1)

-- since its last reset the decoder was fed these bytes and gave these frames, which are the frames of the bytes
pub record HasGiven (d : Decoding) (fed : List ℕ) (given : List Frame) : Type 0 where
  pub ready : d.broken ≡ None
  pub before : d.before ≡ counted (length (flat_map frame_bytes given))
  pub cut : IsCut fed given d.held

-- the place is the one where the bytes go wrong
abbrev pub TellsFault : FrameFault → List ℕ → Type 0
TellsFault (BadFrame place) bytes = (at : ℕ) × IsBadAt bytes at × (place ≡ counted at)
TellsFault NoMemory bytes = Unit {0}

-- after a fault the decoder is as it was, or broken at that place
abbrev pub AfterFault : FrameFault → Decoding → Decoding → Type 0
AfterFault (BadFrame place) old new = new.broken ≡ Some place
AfterFault NoMemory old new = new ≡ old

-- where reading stopped: at the byte where the bytes go wrong
abbrev pub StopsWell : Stop → List ℕ → Type 0
StopsWell stops.NoMemory bytes = Unit {0}
StopsWell (stops.Miss Short) bytes = ⊥
StopsWell (stops.Miss (Wrong left)) bytes = (left ≤ length bytes) × IsBadAt bytes (length bytes - left)

-- however the bytes go on, they are a part of a frame as long as there are fewer of them than that
abbrev pub StaysPartial : List ℕ → ℕ → Type 0
StaysPartial bytes wanted = (more : List ℕ) → length (bytes ++ more) < wanted → IsPartial (bytes ++ more)
