-- A network's cables at the ends of a run's steps: what their ends popped till then was offered till then.
use Rattle.std.specs.Prelude.{◌≡◌, ◌≤◌, ℕ, zero, suc, List, Option, Some, None, length, map, slice_get, take}
use Rattle.mq_history.specs.declared.history.History.{History}
use Rattle.mq_history.specs.declared.history.Mark.{Mark}
use Rattle.mq_history.specs.declared.scenario.CableLine.{CableLine}
use Rattle.mq_history.specs.declared.scenario.Scenario.{Scenario}
use Rattle.mq_spec_network.specs.from_spec_node.Doers.{by, is_receiver, is_sender}
use Rattle.mq_spec_network.specs.Cables.{Carries}
use Rattle.mq_spec_network.specs.Lawful.{IsCarried}
use Rattle.mq_spec_network.specs.Turns.{Network}
use Rattle.mq_nodes.specs.Course.{Course}

-- Both directions of a cable: what its reader popped is of what its writer offered, as the faults have it.
pub record IsCarriedIn (w : Network) (k : ℕ) (c : CableLine) : Type 0 where
  pub out : Carries c.out (by (is_sender k) (w.done c.sender)) (is_receiver k) (w.done c.receiver)
  pub back : Carries c.back (by (is_receiver k) (w.done c.receiver)) (is_sender k) (w.done c.sender)

-- all cables
abbrev pub AllCarried : Network → Type 0
AllCarried w = (k : ℕ) (c : CableLine) → slice_get w.scenario.cables k ≡ Some c → IsCarriedIn w k c

-- So many entries had a manager when so many steps were done, as its marks tell: none, where they don't tell it.
abbrev pub entries_noted : Option Mark → ℕ
entries_noted None = 0
entries_noted (Some k) = k.entries

abbrev pub entries_until : ℕ → List Mark → ℕ
entries_until zero marks = 0
entries_until (suc i) marks = entries_noted (slice_get marks i)

abbrev pub history_until : ℕ → History → History
history_until i h = record h { entries = take (entries_until i h.marks) h.entries; marks = take i h.marks }

-- the histories when so many steps were done
abbrev pub until : ℕ → List History → List History
until i hs = map (history_until i) hs

-- the network then, as a course notes it
abbrev pub net_noted : ℕ → Course → Network
net_noted i c = record c.net { done = λ m. take (entries_until i (c.marks m)) (c.net.done m) }

-- At the end of each step of a course its cables are carried; the managers note the same steps, and no more entries than they have.
pub record IsCarriedSoFar (c : Course) : Type 0 where
  pub same : (m : ℕ) → length (c.marks m) ≡ length (c.marks 0)
  pub few : (i m : ℕ) → entries_until i (c.marks m) ≤ length (c.net.done m)
  pub all : (i : ℕ) → AllCarried (net_noted i c)

-- So are the cables of a run, when so many steps were done.
abbrev pub AreCarriedSoFar : Scenario → List History → Type 0
AreCarriedSoFar s hs = (i k : ℕ) (c : CableLine) → slice_get s.cables k ≡ Some c → IsCarried k c (until i hs)
