-- What is seen of the parts of a node, and the entry that an event adds.
use Rattle.std.specs.Prelude.{◌≡◌, ℕ, ◌+◌, ◌-◌, Bool, length, List, [], ◌∷◌, ◌++◌, Option, Some, None}
use Rattle.mq_history.specs.declared.calls.Chance.TheVariants as chances
use Rattle.mq_history.specs.declared.calls.Reply.TheVariants as replies
use Rattle.mq_frame.specs.declared.frame.Seen.TheVariants as items
use Rattle.mq_spec_node.specs.Terms.{Acted, Choice, Runs, NoMemory, Stopped, Did, Actor, Call, Entry, History}
use Rattle.mq_spec_node.specs.Words.{Node, Own, Surroundings, NodeValue, IsReplayed, node_of, forgotten_rows, remembered, more_entries, trigger_deed}
use Rattle.mq_manager.specs.Facts.{MayCount}
use Rattle.mq_manager.specs.from_core.Values.{CoreValue}
use Rattle.mq_events.specs.declared.outcome.Outcome.{Outcome}

-- Entries; for how many more there is room, and for how many the memory is set aside.
pub record EntriesState : Type 0 where
  pub list : List Entry
  pub room : ℕ
  pub aside : ℕ

-- What a node has to spare for later events: whether its manager had few rows when it began, so that its counters may rise; how many
-- entries are set aside, for timeouts of its senders.
pub record Spare : Type 0 where
  pub few : Bool
  pub aside : ℕ

-- What the scenario gives it, its history, its manager, its own, its last stamp, what it has to spare; for how many more entries, beside
-- those that are set aside, and for how many more marks there is room.
pub record NodeState : Type 0 where
  pub given : Surroundings
  pub history : History
  pub manager : CoreValue
  pub own : Own
  pub stamp : ℕ
  pub spare : Spare
  pub room : ℕ
  pub marks : ℕ

abbrev pub node_in : NodeState → Node
node_in s = node_of s.manager.plain s.own

abbrev pub value_of : NodeState → NodeValue
value_of s = record { given = s.given; history = s.history; node = node_in s; stamp = s.stamp }

-- Its history leads to it.
abbrev pub IsKept : NodeState → Type 0
IsKept s = IsReplayed (value_of s)

-- the last of these
abbrev pub last_entry : List Entry → Option Entry
last_entry [] = None
last_entry (e ∷ []) = Some e
last_entry (e ∷ f ∷ es) = last_entry (f ∷ es)

-- the actor of the last entry
abbrev pub last_actor : Option Actor → List Entry → Option Actor
last_actor last [] = last
last_actor last (e ∷ es) = last_actor (Some e.actor) es

-- The entry of an event that offers nothing and takes nothing.
abbrev pub entry_of : ℕ → Actor → Call → Outcome → Entry
entry_of stamp actor call o = record {
  stamp = stamp;
  actor = actor;
  call = call;
  chance = chances.Call o.choice;
  reply = o.reply;
  effect = record { delta = o.delta; pushed = None; extras = 0; popped = items.Nothing; received = [] };
}

-- the node's own behind it: tries of rows that went are forgotten, a monitor remembers what it was answered
abbrev pub forgotten_if : Choice → List Did → Own → Own
forgotten_if Runs delta own = forgotten_rows delta own
forgotten_if NoMemory delta own = own
forgotten_if (Stopped by part left) delta own = own

abbrev pub own_after : Actor → Call → Outcome → Own → Own
own_after actor call o own = remembered actor call o.reply (forgotten_if o.choice o.delta own)

-- one entry more
abbrev pub with_entry : Entry → NodeState → NodeState
with_entry e s = record s { history = more_entries (e ∷ []) s.history; stamp = e.stamp; room = s.room - 1 }

abbrev pub told : Actor → Call → Outcome → NodeState → NodeState
told actor call o s = with_entry (entry_of (s.stamp + 1) actor call o) s

abbrev pub finished : Actor → Call → Outcome → NodeState → NodeState
finished actor call o s = told actor call o (record s { own = own_after actor call o s.own })

-- an act of which nothing is told
abbrev pub quietly : Acted → Outcome
quietly acted = record { choice = Runs; reply = replies.Acted acted; delta = [] }

-- no trigger is due
abbrev pub IsServed : NodeState → Type 0
IsServed s = trigger_deed (node_in s) ≡ None

-- the counters of its manager are low
abbrev pub IsLow : NodeState → Type 0
IsLow s = MayCount s.manager.plain

-- a step ends here
abbrev pub marked : Bool → NodeState → NodeState
marked idle s = record s { history = record s.history { marks = s.history.marks ++ record { entries = length s.history.entries; idle = idle } ∷ [] }; marks = s.marks - 1 }
