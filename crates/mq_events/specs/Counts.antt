-- What bounds the counters of a node's manager: each event raises them by a little, and a node makes few.
use Rattle.std.specs.Prelude.{◌≡◌, ℕ, ◌+◌, ◌*◌, ◌^◌, ◌≤◌, if◌then◌else◌, true, List, [], ◌∷◌, length}
use Rattle.std.specs.List.{AllByRecursion}
use Rattle.mq_objects.specs.declared.object.LocalQueue.{LocalQueue}
use Rattle.mq_calls.specs.Words.{stored, puts_to}
use Rattle.mq_calls.specs.declared.state.Connection.{Connection}
use Rattle.mq_sender.specs.States.{awaits}
use Rattle.mq_spec_node.specs.Terms.{Plain}
use Rattle.mq_spec_node.specs.Words.{ChannelEnd, Own, NodeValue}
use Rattle.mq_spec_node.specs.Node.ChannelEnd.{Sends, Receives}
use Rattle.mq_events.specs.Disks.{HasRisen}
use Rattle.mq_events.specs.States.{NodeState, IsKept, value_of}

-- No counter of a manager is above this. Uncommitted puts count as if they stood.
pub record AreBelow (most : ℕ) (p : Plain) : Type 0 where
  pub idents : p.numbers.idents ≤ most
  pub connections : p.numbers.connections ≤ most
  pub handles : AllByRecursion (λ (c : Connection). c.last_handle ≤ most) p.connections
  pub arrivals : (name : List ℕ) → (stored name p).arrivals + puts_to name p.connections ≤ most
  pub due : (name : List ℕ) → (stored name p).due + puts_to name p.connections ≤ most

-- how many messages its receivers have kept, which no commit has placed yet
abbrev pub kept_in : List ChannelEnd → ℕ
kept_in [] = 0
kept_in (Sends e ∷ es) = kept_in es
kept_in (Receives e ∷ es) = length e.kept + kept_in es

abbrev pub kept_total : Own → ℕ
kept_total own = kept_in own.ends

-- how many senders wait for an answer
abbrev pub waiting_in : List ChannelEnd → ℕ
waiting_in [] = 0
waiting_in (Sends e ∷ es) = (if awaits e.machine.state then 1 else 0) + waiting_in es
waiting_in (Receives e ∷ es) = waiting_in es

abbrev pub waiting_total : Own → ℕ
waiting_total own = waiting_in own.ends

-- The counters, with the messages that receivers have kept, are at most 1,024 higher for each event than a manager with few rows
-- has them when it begins.
pub record HasBound (v : NodeValue) : Type 0 where
  pub most : ℕ
  pub below : AreBelow most v.node.manager
  pub fits : most + kept_total v.node.own ≤ 2 ^ 62 + 1024 * length v.history.entries

abbrev pub AreCounted : NodeState → Type 0
AreCounted s = s.spare.few ≡ true → HasBound (value_of s)

-- For each sender that waits for an answer an entry is set aside: that of its timeout.
abbrev pub AreAside : NodeState → Type 0
AreAside s = waiting_total s.own ≤ s.spare.aside

-- What holds of a node between its calls.
pub record IsNode (s : NodeState) : Type 0 where
  pub kept : IsKept s
  pub counted : AreCounted s
  pub risen : HasRisen s.history.entries s.manager.faults
  pub aside : AreAside s

-- No queue has more than 2^62 rows: one by one, and by any name.
abbrev pub HasFew : Plain → LocalQueue → Type 0
HasFew p q = length (stored q.name p).rows ≤ 2 ^ 62

abbrev pub HasFewRows : Plain → Type 0
HasFewRows p = (name : List ℕ) → length (stored name p).rows ≤ 2 ^ 62

-- an event that keeps what the node has to spare; receivers keep no more messages of batches, and no more senders wait
pub record KeepsCounts (old new : NodeState) : Type 0 where
  pub spare : new.spare ≡ old.spare
  pub total : kept_total new.own ≤ kept_total old.own
  pub waits : waiting_total new.own ≤ waiting_total old.own
