-- What is known of nodes and courses while a phase begins and ends: what goes under a lock, and what came out.
use Rattle.std.specs.Prelude.{◌≡◌, ◌<◌, ◌≤◌, ℕ, Bool, true, false, List, [], drop, Some, None, length, slice_get}
use Rattle.mq_history.specs.Scenarios.{IsScenario}
use Rattle.mq_history.specs.declared.scenario.Scenario.{Scenario}
use Rattle.mq_spec_node.specs.Terms.{Entry, ScriptPart}
use Rattle.mq_progress.specs.Course.{Course}
use Rattle.mq_acts.specs.from_events.States.{NodeState, IsKept}
use Rattle.mq_acts.specs.Restarts.{StaysOwn}
use Rattle.mq_acts.specs.Serving.{IsDone}
use Rattle.mq_split.specs.Took.{EndState}
use Rattle.mq_split.specs.Ends.{AreFree, EndsApart}
use Rattle.mq_shared.specs.Held.{Begun, Kept, ScriptState, cables_begun, entries_begun}
use Rattle.mq_split.specs.Parting.{AreEndsAt, EndRowState, ends_named, none_since}
use Rattle.mq_shared.specs.Phasing.{AreReady, AreTexts, IsCourse, among, entries_in, moment_or}
use Rattle.mq_shared.specs.Sharing.{begun_with}

-- the scripts of a phase at a manager, with room for more
pub record ScriptRowState : Type 0 where
  pub scripts : List ScriptState
  pub room : ℕ

-- a scenario, and the scripts of a phase
pub record Asked : Type 0 where
  pub scenario : Scenario
  pub scripts : List ℕ

-- A phase of these begins so, with nodes that may act.
pub record Begins (a : Asked) (b : Begun) : Type 0 where
  pub scenario : IsScenario a.scenario
  pub texts : AreTexts a.scenario
  pub all : length b.nodes ≡ length a.scenario.managers
  pub ready : AreReady b.nodes
  pub begun : b ≡ begun_with a.scenario a.scripts b.nodes b.outs b.backs

-- the courses of a manager's scripts are in their places
abbrev pub CoursesAt : Asked → Begun → ℕ → List Course → Type 0
CoursesAt a b m cs = (k : ℕ) (p : ScriptPart) (c : Course) → slice_get a.scenario.scripts k ≡ Some p → slice_get cs k ≡ Some c → p.manager ≡ m → IsCourse None k p (entries_begun b m) c

-- those of managers before a place are
abbrev pub CoursesBelow : Asked → Begun → ℕ → List Course → Type 0
CoursesBelow a b n cs = (m : ℕ) → m < n → CoursesAt a b m cs

-- no script of the phase, and no other course, was touched
abbrev pub OthersStay : Asked → List Course → List Course → Type 0
OthersStay a old new = (k : ℕ) → among a.scripts k ≡ false → slice_get new k ≡ slice_get old k

-- the rows that wait for their managers
abbrev pub EndsWait : Begun → Asked → List EndRowState → Type 0
EndsWait b a rows = (m : ℕ) (r : EndRowState) → slice_get rows m ≡ Some r → AreEndsAt (cables_begun b) none_since (ends_named a.scenario.cables) m r.ends × EndsApart r.ends × AreFree r.ends

abbrev pub RowsWait : ℕ → List ScriptRowState → Type 0
RowsWait n rows = (m : ℕ) (r : ScriptRowState) → slice_get rows m ≡ Some r → (r.scripts ≡ []) × (n ≤ r.room)

-- the first nodes are those with which the phase began
abbrev pub NodesWait : Begun → List NodeState → Type 0
NodesWait b ns = (m : ℕ) (n : NodeState) → slice_get ns m ≡ Some n → slice_get b.nodes m ≡ Some n

-- What came out of a manager's lock.
pub record IsOut (b : Begun) (m : ℕ) (n : NodeState) (es : List EndState) : Type 0 where
  pub scripts : List ScriptState
  pub wants : Bool
  pub kept : Kept b (record { manager = m; node = n; ends = es; scripts = scripts; wants = wants })
  pub history : IsKept n

abbrev pub AreOut : Begun → List NodeState → List (List EndState) → Type 0
AreOut b ns rows = (m : ℕ) (n : NodeState) (es : List EndState) → slice_get ns m ≡ Some n → slice_get rows m ≡ Some es → IsOut b m n es

-- what a manager did in the phase, as the nodes behind it tell
abbrev pub since_of : Begun → List NodeState → ℕ → List Entry
since_of b ns m = drop (length (entries_begun b m)) (entries_in ns m)

-- the courses of the phase's scripts are back, of managers that are out
abbrev pub AreBack : Asked → Begun → List NodeState → List Course → Type 0
AreBack a b ns cs = (k : ℕ) (p : ScriptPart) (c : Course) → slice_get a.scenario.scripts k ≡ Some p → among a.scripts k ≡ true → p.manager < length ns → slice_get cs k ≡ Some c → IsCourse (Some (moment_or (slice_get b.nodes p.manager))) k p (entries_in ns p.manager) c

-- no trigger is due at any node; no restart was from a log that was changed from outside
abbrev pub AreDone : List NodeState → Type 0
AreDone ns = (m : ℕ) (n : NodeState) → slice_get ns m ≡ Some n → IsDone n

abbrev pub OwnOut : Begun → List NodeState → Type 0
OwnOut b ns = (m : ℕ) (n : NodeState) → slice_get ns m ≡ Some n → StaysOwn (entries_begun b m) n.history.entries
