-- A receiver's turns over a wire: what is said of the wire between its two states, by what its trait says.
use Rattle.std.specs.Prelude.{◌≡◌, ℕ, Result}
use Rattle.mq_base.specs.declared.want.NoMemory.{NoMemory as Want}
use Rattle.mq_cable.specs.declared.wire.Wire.{Ghosts}
use Rattle.mq_cable.specs.Offers.{Offering}
use Rattle.mq_frame.specs.declared.frame.Seen.TheVariants as items
use Rattle.mq_spec_node.specs.Terms.{Seen}
use Rattle.mq_spec_node.specs.Words.{ReceiverEnd}
use Rattle.mq_turn_parts.specs.from_events.States.{NodeState}
use Rattle.mq_turn_parts.specs.declared.telling.Turn.{Turn}
use Rattle.mq_turn_parts.specs.OverWire.{FoundNothing}
use Rattle.mq_takes.specs.Takes.{ReceivesTurn, whole}
use Rattle.mq_takes.specs.Turning.{TakesOne}

-- The turn of an end that was lifted out of its place: it takes what was seen, and offers no frame.
abbrev pub TakesOver : {W : Type 0} → Ghosts W → W → W → ReceiverEnd → Seen → NodeState → Result Turn Want → NodeState → Type 0
TakesOver g a b e seen old result new = (o : Offering) → ReceivesTurn e.cable (λ xs. g.reads a xs b) (λ xs. g.writes a xs b) (seen ≡ items.Nothing) ⊥ o o (whole e old) result new

-- Its turn, seen from before its first look.
abbrev pub TakesOneOver : {W : Type 0} → Ghosts W → W → W → (cable : ℕ) → Offering → Offering → NodeState → Result Turn Want → NodeState → Type 0
TakesOneOver g a b cable o n old result new = TakesOne cable (λ xs. g.reads a xs b) (λ xs. g.writes a xs b) (FoundNothing g a b) (g.was_full a b) o n old result new
