-- A unit that is begun: its batch is held, and its first message offered.
use Rattle.std.specs.Prelude.{◌≡◌, ◌+◌, ℕ, List, Option, Some}
use Rattle.mq_cable.specs.declared.item.Item.{Item}
use Rattle.mq_cable.specs.Offers.{Offering}
use Rattle.mq_frame.specs.Frames.{HasSpelling}
use Rattle.mq_frame.specs.declared.frame.Seen.TheVariants as items
use Rattle.mq_sender.specs.Table.{sender_next}
use Rattle.mq_sender.specs.declared.turns.SenderDoes.TheVariants as lines
use Rattle.mq_sync.specs.Units.{unit_named}
use Rattle.mq_calls.specs.declared.choices.Choice.{Choice}
use Rattle.mq_calls.specs.declared.choices.Choice.TheVariants.{Runs}
use Rattle.mq_spec_manager.specs.Agents.{CanHold, hold_batch, stock}
use Rattle.mq_spec_node.specs.Terms.{Did, Frame, Part, Plain}
use Rattle.mq_spec_node.specs.Words.{SenderEnd, item_of, parts_of}
use Rattle.mq_wires.specs.Wires.{HasPushed, IsFull, OffersNone}
use Rattle.mq_turn_parts.specs.from_events.States.{NodeState}
use Rattle.mq_turns.specs.declared.beginning.First.{First}
use Rattle.mq_turns.specs.declared.beginning.First.TheVariants as firsts
use Rattle.mq_turn_parts.specs.Turns.{Made}
use Rattle.mq_turn_parts.specs.Acting.{Acts}

-- what is held
abbrev pub begun_parts : SenderEnd → (n count : ℕ) → Plain → List Part
begun_parts e n count p = parts_of (hold_batch e.channel (unit_named e.machine.kept.session n) count p)

-- What a first message's offer comes to; there may be no frame of it.
abbrev pub FirstTold : (writes : List Item → Type 0) → (full : Type 0) → Offering → Option Frame → First → Offering → Type 0
FirstTold writes full o f firsts.Wants n = OffersNone writes o n
FirstTold writes full o f firsts.Refused n = (x : Frame) × (f ≡ Some x) × OffersNone writes o n × IsFull full o (item_of x)
FirstTold writes full o f (firsts.Offered frame extras) n = (f ≡ Some frame) × HasPushed writes full o frame extras n × HasSpelling frame.kind

-- the batch was held in this state
pub record HasHeld (e : SenderEnd) (n count stamp : ℕ) (choice : Choice) (delta : List Did) (s h : NodeState) : Type 0 where
  pub acts : Acts e s
  pub same : h ≡ record s { manager = h.manager }
  pub ran : choice ≡ Runs
  pub made : Made (begun_parts e n count s.manager.plain) choice delta s.manager h.manager
  pub can : CanHold e.channel s.manager.plain
  pub stamp_is : stamp ≡ s.stamp + 1
  pub next : lines.Begin n count ≡ sender_next e.machine items.Nothing (stock e.channel s.manager.plain)

-- whatever that was, this holds of it
abbrev pub Begins : SenderEnd → (n count stamp : ℕ) → Choice → List Did → NodeState → (NodeState → Type 0) → Type 0
Begins e n count stamp choice delta h P = (s : NodeState) → HasHeld e n count stamp choice delta s h → P s
