-- A phase as its caller sees it: what it asks of a network, and what the network is behind it.
use Rattle.std.specs.Prelude.{◌≡◌, ◌≤◌, ◌==◌, ℕ, Bool, true, false, IfSome, List, [], ◌∷◌, ◌++◌, Option, Some, None, Result, Ok, Err, drop, length, slice_get}
use Rattle.std.specs.List.{list_any}
use Rattle.mq_history.specs.Scenarios.{ArePhased, IsScenario}
use Rattle.mq_history.specs.declared.scenario.Scenario.{Scenario}
use Rattle.mq_spec_node.specs.Terms.{Entry, ScriptPart}
use Rattle.mq_spec_node.specs.Words.{Grows, is_spent}
use Rattle.mq_spec_network.specs.Steps.{AllInPhase}
use Rattle.mq_spec_network.specs.Tasks.{Trying}
use Rattle.mq_progress.specs.Course.{Course, Stands}
use Rattle.mq_acts.specs.from_events.States.{NodeState, IsKept, IsServed, value_of}
use Rattle.mq_acts.specs.from_events.Events.{MayAct}
use Rattle.mq_acts.specs.Advances.{IsTextLine}
use Rattle.mq_acts.specs.Restarts.{StaysOwn}
use Rattle.mq_nodes.specs.declared.nodes.Stop.{Stop}
use Rattle.mq_nodes.specs.declared.nodes.Stop.TheVariants as stops
use Rattle.mq_nodes.specs.Told.{KeptSo}
use Rattle.mq_ways.specs.Ways.{CableState}
use Rattle.mq_split.specs.Facing.{AreJoined}
use Rattle.mq_split.specs.Opening.{EachCable, IsShort}
use Rattle.mq_shared.specs.Held.{entries_or}

-- what the manager at a place did
abbrev pub entries_in : List NodeState → ℕ → List Entry
entries_in ns m = entries_or (slice_get ns m)

-- its moment
abbrev pub moment_or : Option NodeState → ℕ
moment_or None = 0
moment_or (Some n) = n.manager.plain.moment

-- the scripts of a phase in their order, each with its lines and the moment with which the phase begins at its manager
abbrev pub tries_one : List NodeState → ℕ → Option ScriptPart → List Trying
tries_one ns k None = []
tries_one ns k (Some p) = record { script = k; part = p; moment = moment_or (slice_get ns p.manager) } ∷ []

abbrev pub tries_in : Scenario → List NodeState → List ℕ → List Trying
tries_in s ns [] = []
tries_in s ns (k ∷ ks) = tries_one ns k (slice_get s.scripts k) ++ tries_in s ns ks

-- How far a script is: no get of it waits, or its next line was tried at a moment, from which its deadline is kept.
pub record IsCourse (tried : Option ℕ) (k : ℕ) (p : ScriptPart) (es : List Entry) (c : Course) : Type 0 where
  pub stands : Stands k p es c
  pub few : c.done ≤ length p.lines
  pub rests : KeptSo tried (drop c.done p.lines) c.until

-- of all scripts, by what the managers did; no get waits
abbrev pub AreCourses : Scenario → List NodeState → List Course → Type 0
AreCourses s ns cs = (k : ℕ) (p : ScriptPart) (c : Course) → slice_get s.scripts k ≡ Some p → slice_get cs k ≡ Some c → IsCourse None k p (entries_in ns p.manager) c

-- whether a script is one of these
abbrev pub among : List ℕ → ℕ → Bool
among ks k = list_any (λ (j : ℕ). j == k) ks

-- behind a phase of these scripts the next line of each may have been tried, at the moment with which it began at the script's manager
abbrev pub if_among : Bool → ℕ → Option ℕ
if_among true moment = Some moment
if_among false moment = None

abbrev pub AreLeft : Scenario → List ℕ → (old ns : List NodeState) → List Course → Type 0
AreLeft s ks old ns cs = (k : ℕ) (p : ScriptPart) (c : Course) → slice_get s.scripts k ≡ Some p → slice_get cs k ≡ Some c → IsCourse (if_among (among ks k) (moment_or (slice_get old p.manager))) k p (entries_in ns p.manager) c

-- another event may come, at each node
abbrev pub AreReady : List NodeState → Type 0
AreReady ns = (m : ℕ) (n : NodeState) → slice_get ns m ≡ Some n → IsServed n × MayAct n

-- a line's command is such as a text of commands gives
abbrev pub AreTexts : Scenario → Type 0
AreTexts s = (k : ℕ) (p : ScriptPart) → slice_get s.scripts k ≡ Some p → (n : ℕ) → IfSome (slice_get p.lines n) IsTextLine

-- each history leads to its node
abbrev pub AreKept : List NodeState → Type 0
AreKept ns = (m : ℕ) (n : NodeState) → slice_get ns m ≡ Some n → IsKept n

-- A phase of these scripts may begin: nodes, courses of scripts and cables are the scenario's.
pub record MayPhase (s : Scenario) (ks : List ℕ) (ns : List NodeState) (cs : List Course) (ws : List CableState) : Type 0 where
  pub scenario : IsScenario s
  pub phased : ArePhased s ks
  pub texts : AreTexts s
  pub managers : length ns ≡ length s.managers
  pub scripts : length cs ≡ length s.scripts
  pub cables : length ws ≡ length s.cables
  pub kept : AreKept ns
  pub ready : AreReady ns
  pub courses : AreCourses s ns cs
  pub ways : AreJoined s.cables (entries_in ns) ws

-- What a manager did in it.
pub record NodeRan (ts : List Trying) (m : ℕ) (since : List Entry) (old new : NodeState) : Type 0 where
  pub phased : AllInPhase ts m old.history.entries since
  pub grows : Grows (value_of old) since (value_of new)
  pub marks : new.marks ≡ old.marks
  pub keeps : IsKept new

-- Another event may come then, memory is wanting, or a node has made all its events.
abbrev pub PhaseEnds : Result (Unit {0}) Stop → List NodeState → Type 0
PhaseEnds (Ok x) ns = AreReady ns
PhaseEnds (Err stops.NoMemory) ns = Unit {0}
PhaseEnds (Err (stops.Spent m)) ns = (n : NodeState) × (slice_get ns m ≡ Some n) × (is_spent (value_of n) ≡ true)

-- A phase ran: each manager did what a phase may have, and courses and cables are as the histories say.
pub record PhaseRan (s : Scenario) (ks : List ℕ) (old : List NodeState) (r : Result (Unit {0}) Stop) (ns : List NodeState) (cs : List Course) (ws : List CableState) : Type 0 where
  pub since : ℕ → List Entry
  pub others : (m : ℕ) → length old ≤ m → since m ≡ []
  pub managers : length ns ≡ length old
  pub nodes : (m : ℕ) (n new : NodeState) → slice_get old m ≡ Some n → slice_get ns m ≡ Some new → NodeRan (tries_in s old ks) m (since m) n new
  pub scripts : length cs ≡ length s.scripts
  pub courses : AreLeft s ks old ns cs
  pub cables : length ws ≡ length s.cables
  pub ways : AreJoined s.cables (entries_in ns) ws
  pub ends : PhaseEnds r ns

-- no restart of it was from a log that was changed from outside
abbrev pub PhaseOwn : List NodeState → List NodeState → Type 0
PhaseOwn old ns = (m : ℕ) (n new : NodeState) → slice_get old m ≡ Some n → slice_get ns m ≡ Some new → StaysOwn n.history.entries new.history.entries

-- At most 64 items lie on each direction of a cable then, where memory was not wanting.
abbrev pub ShortBehind : Result (Unit {0}) Stop → List CableState → Type 0
ShortBehind (Ok x) ws = EachCable IsShort ws
ShortBehind (Err stops.NoMemory) ws = Unit {0}
ShortBehind (Err (stops.Spent m)) ws = EachCable IsShort ws
