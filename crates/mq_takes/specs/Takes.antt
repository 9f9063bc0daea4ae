-- A receiver's turn: what is known before it, and what it comes to.
use Rattle.std.specs.Prelude.{◌≡◌, ◌+◌, ◌<◌, ℕ, Bool, List, [], Some, None, Result}
use Rattle.mq_base.specs.declared.want.NoMemory.{NoMemory as Want}
use Rattle.mq_cable.specs.declared.item.Item.{Item}
use Rattle.mq_cable.specs.Offers.{Offering}
use Rattle.mq_frame.specs.declared.frame.Seen.TheVariants as items
use Rattle.mq_history.specs.declared.calls.Actor.TheVariants as actors
use Rattle.mq_history.specs.declared.calls.Call.TheVariants as calls
use Rattle.mq_calls.specs.declared.choices.Choice.{Choice}
use Rattle.mq_calls.specs.declared.choices.Choice.TheVariants.{Runs, NoMemory, Stopped}
use Rattle.mq_receiver.specs.After.{done_after, receiver_after}
use Rattle.mq_receiver.specs.declared.turns.ReceiverDoes.TheVariants as does
use Rattle.mq_spec_manager.specs.Agents.{IsUp, set_bound}
use Rattle.mq_spec_node.specs.Terms.{Did, Message, Part, Plain, ReceiverDoes, ReceiverOut, Seen}
use Rattle.mq_spec_node.specs.Words.{ReceiverEnd, deed_of, kept_seen, parts_of, receiver_end, turned, with_end}
use Rattle.mq_spec_node.specs.Node.ChannelEnd.{Receives}
use Rattle.mq_turn_parts.specs.from_events.States.{IsKept, IsServed, NodeState, node_in}
use Rattle.mq_turn_parts.specs.from_events.Events.{MayAct}
use Rattle.mq_turn_parts.specs.declared.telling.Turn.{Turn}
use Rattle.mq_turn_parts.specs.Turns.{Made}
use Rattle.mq_turn_parts.specs.Wired.{TurnIs}

-- a node whose receiver end was lifted out of its place, with that end in it
abbrev pub whole : ReceiverEnd → NodeState → NodeState
whole e s = record s { own = with_end (Receives e) s.own }

-- A receiver end that may act, at a manager that is up.
pub record MayTake (e : ReceiverEnd) (s : NodeState) : Type 0 where
  pub kept : IsKept s
  pub served : IsServed s
  pub may : MayAct s
  pub up : IsUp s.manager.plain
  pub there : receiver_end e.cable s.own ≡ Some e

-- So of an end that was lifted out of its place, with room for the entry of its turn.
pub record MayTakeTurn (e : ReceiverEnd) (s : NodeState) : Type 0 where
  pub room : 0 < s.room
  pub acts : MayTake e (whole e s)

-- Its turn: the history that it leaves replays.
pub record ReceivesTurn (cable : ℕ) (reads writes : List Item → Type 0) (none full : Type 0) (o n : Offering) (old : NodeState) (result : Result Turn Want) (new : NodeState) : Type 0 where
  pub kept : IsKept new
  pub spare : new.spare ≡ old.spare
  pub turn : TurnIs (actors.Receiver cable) reads writes none full o n (deed_of (old.stamp + 1) (actors.Receiver cable) calls.Turn items.Nothing (node_in old)) old result new

-- Lines that take the item and change no more than the end.
abbrev pub IsQuietLine : ReceiverDoes → Type 0
IsQuietLine does.Ignore = Unit {0}
IsQuietLine does.Keep = Unit {0}
IsQuietLine does.Again = Unit {0}
IsQuietLine _ = ⊥

-- lines that take the item, but for a unit's commit
abbrev pub IsItemLine : ReceiverDoes → Type 0
IsItemLine does.Ignore = Unit {0}
IsItemLine does.Bind = Unit {0}
IsItemLine does.Keep = Unit {0}
IsItemLine does.Again = Unit {0}
IsItemLine does.Close = Unit {0}
IsItemLine _ = ⊥

-- the end after a quiet line
abbrev pub kept_after : ReceiverDoes → Seen → List Message → List Message
kept_after does.Keep seen kept = kept_seen seen kept
kept_after _ seen kept = kept

abbrev pub end_after : ReceiverEnd → ReceiverDoes → Seen → ReceiverEnd
end_after e d seen = record e { machine = done_after e.machine d seen; kept = kept_after d seen e.kept }

-- the end after it has offered the frame that it owed
abbrev pub paid : ReceiverEnd → ReceiverEnd
paid e = record e { machine = record e.machine { owes = None } }

-- A turn of an end that leaves this one behind it, takes the item that was seen, and does nothing at the manager.
pub record Leaves (e last : ReceiverEnd) (stamp : ℕ) (seen : Seen) (s : NodeState) : Type 0 where
  pub may : MayTake e s
  pub cable_is : last.cable ≡ e.cable
  pub deed : deed_of stamp (actors.Receiver e.cable) calls.Turn seen (node_in s) ≡ Some (turned [] None (with_end (Receives last) s.own))

-- A turn of an end that leaves this one behind it where all was done: it takes the item that was seen, and these parts were done at
-- the manager, or a write of theirs was stopped.
pub record Works (e last : ReceiverEnd) (parts : List Part) (received : List Message) (seen : Seen) (stamp : ℕ) (choice : Choice) (delta : List Did) (old mid : NodeState) : Type 0 where
  pub may : MayTake e old
  pub cable_is : last.cable ≡ e.cable
  pub deed : deed_of stamp (actors.Receiver e.cable) calls.Turn seen (node_in old) ≡ Some (record (turned parts None (with_end (Receives last) old.own)) { received = received })
  pub made : Made parts choice delta old.manager mid.manager
  pub before : mid ≡ record old { manager = mid.manager }

-- the end after a line, with no message kept
abbrev pub emptied : ReceiverEnd → ReceiverDoes → Seen → ReceiverOut → ReceiverEnd
emptied e d seen out = record e { machine = receiver_after e.machine d seen out; kept = [] }

-- an end is bound, or not, behind what was done
abbrev pub bound_if : Choice → List ℕ → Bool → Plain → List Part
bound_if Runs channel bound p = parts_of (set_bound channel bound p)
bound_if NoMemory channel bound p = []
bound_if (Stopped by n left) channel bound p = []
