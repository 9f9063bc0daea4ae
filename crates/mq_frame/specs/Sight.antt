-- What the bytes of an item show.
use Rattle.std.specs.Prelude.{◌≡◌, ℕ, Bool, true, false, List}
use Rattle.mq_frame.specs.declared.frame.Frame.{Frame as OneFrame}
use Rattle.mq_frame.specs.declared.frame.Seen.{Seen}
use Rattle.mq_frame.specs.declared.frame.Seen.TheVariants.{Nothing, Spoiled, Frame}
use Rattle.mq_frame.specs.Frames.{frame_bytes, IsFrame}

-- an item waits
abbrev pub waits : Seen → Bool
waits Nothing = false
waits Spoiled = true
waits (Frame f) = true

-- the frame that the bytes spell; a spoiled one where they spell none
abbrev pub Shows : List ℕ → Seen → Type 0
Shows bytes Nothing = ⊥
Shows bytes Spoiled = (frame : OneFrame) → IsFrame frame → bytes ≡ frame_bytes frame → ⊥
Shows bytes (Frame frame) = IsFrame frame × (bytes ≡ frame_bytes frame)
