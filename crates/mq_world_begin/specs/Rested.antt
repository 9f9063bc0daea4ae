-- Managers of a scenario at rest, each with what is its own and with its history.
use Rattle.std.specs.Prelude.{◌≡◌, ◌+◌, ℕ, List, [], None, Some, length, map, slice_get}
use Rattle.mq_history.specs.Scenarios.{IsScenario}
use Rattle.mq_history.specs.declared.history.History.{History}
use Rattle.mq_history.specs.declared.scenario.CableLine.{CableLine}
use Rattle.mq_history.specs.declared.scenario.Scenario.{Scenario}
use Rattle.mq_calls.specs.Recovery.{AreKnown, IsImage}
use Rattle.mq_spec_node.specs.Node.ChannelEnd.{Sends, Receives}
use Rattle.mq_spec_node.specs.Words.{ChannelEnd, Own, Replays, TriggersStand, begun_anew, node_of, opening_node, state_of}
use Rattle.mq_spec_network.specs.Given.{own_at, surroundings}
use Rattle.mq_spec_network.specs.Lawful.{IsCarried}
use Rattle.mq_sender.specs.States as senders
use Rattle.mq_receiver.specs.States as receivers
use Rattle.mq_core.specs.Values.{CoreValue}
use Rattle.mq_opening.specs.Opened.{IsOpenLength, IsOpening}
use Rattle.mq_begin.specs.Begun.{AllBegan, Held}

-- in the scenario's order
pub record RestState : Type 0 where
  pub scenario : Scenario
  pub managers : List CoreValue
  pub owns : List Own
  pub histories : List History

-- A history is its manager's, opens with an image of it, and leads to it and its own.
pub record IsRestedAt (s : Scenario) (m : ℕ) (v : CoreValue) (own : Own) (h : History) : Type 0 where
  pub image : IsImage h.opening
  pub known : AreKnown (m + 1) h.opening
  pub replays : Replays (surroundings s m) h
  pub triggers : TriggersStand None (opening_node (surroundings s m) h) h.entries
  pub node : node_of v.plain own ≡ state_of (surroundings s m) h

-- All of them; and each frame that was popped on a cable was offered before.
pub record IsRested (w : RestState) : Type 0 where
  pub scenario : IsScenario w.scenario
  pub managers : length w.managers ≡ length w.scenario.managers
  pub owns : length w.owns ≡ length w.scenario.managers
  pub histories : length w.histories ≡ length w.scenario.managers
  pub each : (m : ℕ) (v : CoreValue) (own : Own) (h : History) → slice_get w.managers m ≡ Some v → slice_get w.owns m ≡ Some own → slice_get w.histories m ≡ Some h → IsRestedAt w.scenario m v own h
  pub carried : (n : ℕ) (c : CableLine) → slice_get w.scenario.cables n ≡ Some c → IsCarried n c w.histories

-- A history of a manager that has just begun: nothing was done, and it opens with what the first start read.
pub record OpensWith (tells : Type 0) (v : CoreValue) (h : History) : Type 0 where
  pub opening : IsOpening tells v h.opening
  pub long : IsOpenLength tells v h.length
  pub moment : h.moment ≡ v.plain.moment
  pub number : h.number ≡ v.plain.given.number
  pub name : h.name ≡ v.plain.given.name
  pub entries : h.entries ≡ []
  pub marks : h.marks ≡ []

-- All managers began, each from its own disk; what is a node's own begins with what its manager has hardened.
pub record Began (tells : Type 0) (held : Held) (s : Scenario) (moment : ℕ) (w : RestState) : Type 0 where
  pub scenario : w.scenario ≡ s
  pub began : AllBegan tells held moment 0 s.managers w.managers
  pub opened : (m : ℕ) (v : CoreValue) (h : History) → slice_get w.managers m ≡ Some v → slice_get w.histories m ≡ Some h → OpensWith tells v h
  pub owned : (m : ℕ) (v : CoreValue) (own : Own) → slice_get w.managers m ≡ Some v → slice_get w.owns m ≡ Some own → own ≡ (begun_anew v.plain (own_at s m)).own

-- An end as the scenario gives it, which never was started; and what is a node's own with such ends.
abbrev pub end_given : ChannelEnd → ChannelEnd
end_given (Sends e) = Sends (record e { machine = senders.new_sender })
end_given (Receives e) = Receives (record e { machine = receivers.receiver_of None; kept = [] })

abbrev pub as_given : Own → Own
as_given own = record own { ends = map end_given own.ends }
