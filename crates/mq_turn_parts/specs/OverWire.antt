-- Turns over a wire: what is said of the wire between its two states, by what its trait says.
use Rattle.std.specs.Prelude.{◌≡◌, ◌≤◌, ◌^◌, ℕ, [], Option, Result}
use Rattle.mq_base.specs.declared.want.NoMemory.{NoMemory as Want}
use Rattle.mq_cable.specs.declared.item.Item.{Item}
use Rattle.mq_cable.specs.declared.wire.Wire.{Ghosts}
use Rattle.mq_cable.specs.Offers.{Offering}
use Rattle.mq_frame.specs.declared.frame.Seen.TheVariants as items
use Rattle.mq_spec_node.specs.Terms.{Actor, Seen}
use Rattle.mq_wires.specs.Wires.{Sees}
use Rattle.mq_events.specs.States.{NodeState}
use Rattle.mq_turn_parts.specs.declared.telling.Turn.{Turn}
use Rattle.mq_turn_parts.specs.Acting.{SendsTurn}
use Rattle.mq_turn_parts.specs.Unseen.{EndTurn}

-- What was seen at a wire's front, with a stamp that another can follow.
pub record HasSeen (front : Option Item) (seen : Seen) (stamp : ℕ) : Type 0 where
  pub sees : Sees front (Unit {0}) seen stamp
  pub low : stamp ≤ 2 ^ 60

-- A fetch found nothing, and nothing was popped.
abbrev pub FoundNothing : {W : Type 0} → Ghosts W → W → W → Type 0
FoundNothing {W} g a b = (m : W) × g.was_empty a m × g.reads m [] b

-- A sender's turn that may offer a frame; `none` says that nothing waited, or that it makes no difference.
abbrev pub SendsOver : {W : Type 0} → Ghosts W → W → W → (cable : ℕ) → (none : Type 0) → Offering → Offering → NodeState → Result Turn Want → NodeState → Type 0
SendsOver g a b cable none o n old result new = SendsTurn cable (λ xs. g.reads a xs b) (λ xs. g.writes a xs b) none (g.was_full a b) o n old result new

-- One that offers none, and takes what was seen.
abbrev pub AnswersOver : {W : Type 0} → Ghosts W → W → W → (cable : ℕ) → Seen → NodeState → Result Turn Want → NodeState → Type 0
AnswersOver g a b cable seen old result new = (o : Offering) → SendsTurn cable (λ xs. g.reads a xs b) (λ xs. g.writes a xs b) (seen ≡ items.Nothing) ⊥ o o old result new

-- An end's turn as one call.
abbrev pub EndsOver : {W : Type 0} → Ghosts W → W → W → Actor → Offering → Offering → NodeState → Result Turn Want → NodeState → Type 0
EndsOver g a b who o n old result new = EndTurn who (λ xs. g.reads a xs b) (λ xs. g.writes a xs b) (FoundNothing g a b) (g.was_full a b) o n old result new
