-- What is to be known of a turn before its entry is added, and what holds then.
use Rattle.std.specs.Prelude.{◌≡◌, ℕ, List, Some}
use Rattle.mq_calls.specs.declared.choices.Choice.{Choice}
use Rattle.mq_history.specs.declared.calls.Chance.TheVariants as chances
use Rattle.mq_history.specs.declared.calls.Reply.TheVariants as replies
use Rattle.mq_spec_node.specs.Terms.{Message, Did, Actor, Call, Entry, Reply, Seen}
use Rattle.mq_spec_node.specs.Words.{Node, Own, Deed, done_or, deed_of, event, remembering, remembered, IsDeed, IsEvent, IsStamp, IsPop, AreExtras}
use Rattle.mq_core.specs.Values.{CoreValue}
use Rattle.mq_events.specs.States.{NodeState, node_in, IsKept, IsServed}
use Rattle.mq_events.specs.Events.{Adds}
use Rattle.mq_turn_parts.specs.declared.telling.Passed.{Passed}
use Rattle.mq_turn_parts.specs.Turns.{Made, own_by, pushed_by, turn_entry}

-- What acts here remembers nothing, and the event is its deed's.
pub record ActsHere (actor : Actor) (call : Call) : Type 0 where
  pub quiet : (reply : Reply) (own : Own) → remembered actor call reply own ≡ own
  pub event_is : (stamp : ℕ) (choice : Choice) (seen : Seen) (n : Node) → event stamp actor call (chances.Call choice) seen n ≡ remembering actor call (done_or (deed_of stamp actor call seen n) choice n)
  pub is_event : (stamp : ℕ) (choice : Choice) (seen : Seen) (n : Node) → IsDeed (deed_of stamp actor call seen n) (chances.Call choice) n → IsEvent stamp actor call (chances.Call choice) seen n

-- What is to be known of a turn: its deed, what its parts came to, and what passed on the wire.
pub record IsTold (s : NodeState) (actor : Actor) (call : Call) (d : Deed) (choice : Choice) (delta : List Did) (w : Passed) (received : List Message) (m : CoreValue) : Type 0 where
  pub deed : deed_of w.stamp actor call w.popped (node_in s) ≡ Some d
  pub reply : d.reply ≡ replies.Changed
  pub made : Made d.parts choice delta s.manager m
  pub pushed : w.pushed ≡ pushed_by choice d.pushed
  pub received_is : received ≡ d.received
  pub stamp : IsStamp s.stamp w.popped w.stamp
  pub pop : IsPop w.popped w.pushed call actor
  pub extras : AreExtras w.pushed w.extras

-- only the manager, the node's own and the room have changed
abbrev pub IsBefore : NodeState → NodeState → Type 0
IsBefore s p = p ≡ record s { manager = p.manager; own = p.own; room = p.room }

-- the history with the entry replays; the manager and the node's own are these
pub record Closed (s : NodeState) (actor : Actor) (call : Call) (e : Entry) (m : CoreValue) (own : Own) (t : NodeState) : Type 0 where
  pub kept : IsKept t
  pub adds : Adds actor call e s t
  pub spare : t.spare ≡ s.spare
  pub manager_is : t.manager ≡ m
  pub own_is : t.own ≡ own

-- So it is closed, whatever its deed is, where all that is known: with the end that the deed leaves.
abbrev pub Closes : Actor → Call → Choice → List Did → Own → Passed → List Message → NodeState → NodeState → Type 0
Closes actor call choice delta behind w received p t =
    (s : NodeState) (d : Deed) → IsBefore s p → ActsHere actor call → IsTold s actor call d choice delta w received p.manager → own_by choice delta behind p.own ≡ own_by choice delta d.own s.own → IsKept s → IsServed s
    → Closed s actor call (turn_entry actor call choice delta w received) p.manager (own_by choice delta d.own s.own) t
