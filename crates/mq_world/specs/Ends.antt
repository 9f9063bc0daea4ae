-- A turn of a cable's end at its node, with the trigger turns behind it: what it read and wrote of the two directions.
use Rattle.std.specs.Prelude.{◌≡◌, ◌⊎◌, ◌+◌, ◌≤◌, ℕ, Bool, true, false, List, [], ◌++◌, None, Result, Ok, Err, length}
use Rattle.mq_base.specs.declared.want.NoMemory.{NoMemory as Want}
use Rattle.mq_cable.specs.declared.item.Item.{Item}
use Rattle.mq_frame.specs.declared.frame.Seen.TheVariants as items
use Rattle.mq_history.specs.declared.calls.Actor.TheVariants as actors
use Rattle.mq_history.specs.declared.calls.Call.TheVariants as calls
use Rattle.mq_spec_node.specs.Terms.{Actor, Entry}
use Rattle.mq_spec_node.specs.Words.{deed_of, is_spent}
use Rattle.mq_watch.specs.from_events.States.{NodeState, IsServed, node_in, value_of}
use Rattle.mq_watch.specs.from_events.Events.{MayAct}
use Rattle.mq_nodes.specs.declared.nodes.Stop.{Stop}
use Rattle.mq_nodes.specs.declared.nodes.Stop.TheVariants as stops
use Rattle.mq_shared.specs.from_turn_parts.{Turn}
use Rattle.mq_shared.specs.from_turn_parts.Unseen.{EndTurn, IsUnseen, turn_deed}
use Rattle.mq_shared.specs.from_turn_parts.Wired.{IsStill, Offered, Popped}
use Rattle.mq_ways.specs.Ways.{CableState, WayState}
use Rattle.mq_world.specs.Settling.{IsOf, NodeDid, NodeStays}

-- these items were taken from a direction
abbrev pub Reads : WayState → WayState → List Item → Type 0
Reads old new xs = old.items ≡ xs ++ new.items

-- these were put there, where there was room
pub record Writes (old new : WayState) (xs : List Item) : Type 0 where
  pub whole : new.items ≡ old.items ++ xs
  pub room : (xs ≡ []) ⊎ (length new.items ≤ 64)

-- nothing lies there; no more may
abbrev pub IsBare : WayState → Type 0
IsBare d = d.items ≡ []

abbrev pub IsFilled : WayState → Type 0
IsFilled d = 64 ≤ length d.items

-- A cable as one of its ends has it: the direction that it reads, and the one that it writes.
pub record Sides : Type 0 where
  pub read : WayState
  pub write : WayState

abbrev pub near_sides : CableState → Sides
near_sides c = record { read = c.back; write = c.out }

abbrev pub far_sides : CableState → Sides
far_sides c = record { read = c.out; write = c.back }

-- an end's turn over them
abbrev pub SideTurn : Actor → Sides → Sides → NodeState → Result Turn Want → NodeState → Type 0
SideTurn who a b old r new = EndTurn who (Reads a.read b.read) (Writes a.write b.write) (IsBare b.read) (IsFilled b.write) a.write.offers b.write.offers old r new

-- the entry of such a turn: what it popped, and what it offered; what was offered of the direction that is read is its writer's
pub record Passes (who : Actor) (a b : Sides) (old : NodeState) (e : Entry) : Type 0 where
  pub is : IsOf who calls.Turn e
  pub leaves : b.read.offers ≡ a.read.offers
  pub popped : Popped (Reads a.read b.read) (IsUnseen (IsBare b.read) (turn_deed who old)) old.stamp e.effect.popped e.stamp
  pub offered : Offered (Writes a.write b.write) (IsFilled b.write) a.write.offers e.effect.pushed e.effect.extras b.write.offers

-- why there is no turn
abbrev pub StaysStill : Actor → Sides → Sides → NodeState → Type 0
StaysStill who a b old = IsStill (IsUnseen (IsBare b.read) (turn_deed who old)) (IsFilled b.write) a.write.offers (turn_deed who old items.Nothing)

-- A turn with the trigger turns behind it: where there is none, or no memory for it, nothing has changed.
abbrev pub EndBroke : Actor → ℕ → Sides → Sides → Stop → NodeState → NodeState → Type 0
EndBroke who m a b stops.NoMemory old new = (NodeStays old new × (b ≡ a)) ⊎ NodeDid (Passes who a b old) old new
EndBroke who m a b (stops.Spent k) old new = (k ≡ m) × NodeDid (Passes who a b old) old new × (is_spent (value_of new) ≡ true)

abbrev pub EndOn : Actor → ℕ → Sides → Sides → NodeState → Result Bool Stop → NodeState → Type 0
EndOn who m a b old (Ok true) new = NodeDid (Passes who a b old) old new × IsServed new × MayAct new
EndOn who m a b old (Ok false) new = NodeStays old new × (b ≡ a) × StaysStill who a b old
EndOn who m a b old (Err stop) new = EndBroke who m a b stop old new

-- A timeout of a sender's end: it never wants memory.
abbrev pub TimeoutOn : ℕ → ℕ → NodeState → Result Bool Stop → NodeState → Type 0
TimeoutOn cable m old (Ok true) new = NodeDid (IsOf (actors.Sender cable) calls.Timeout) old new × IsServed new × MayAct new
TimeoutOn cable m old (Ok false) new = NodeStays old new × (deed_of (old.stamp + 1) (actors.Sender cable) calls.Timeout items.Nothing (node_in old) ≡ None)
TimeoutOn cable m old (Err stops.NoMemory) new = ⊥
TimeoutOn cable m old (Err (stops.Spent k)) new = (k ≡ m) × NodeDid (IsOf (actors.Sender cable) calls.Timeout) old new × (is_spent (value_of new) ≡ true)
