-- What is seen of a network whose nodes are real, and what its type keeps.
use Rattle.std.specs.Prelude.{◌≡◌, ◌+◌, ◌≤◌, ℕ, List, map, Option, Some, None, IsSome, length, slice_get, slice_set}
use Rattle.mq_history.specs.Scenarios.{IsScenario}
use Rattle.mq_history.specs.declared.history.History.{History}
use Rattle.mq_history.specs.declared.scenario.CableLine.{CableLine}
use Rattle.mq_history.specs.declared.scenario.MonitorLine.{MonitorLine}
use Rattle.mq_history.specs.declared.scenario.RulesPart.{RulesPart}
use Rattle.mq_history.specs.declared.scenario.Scenario.{Scenario}
use Rattle.mq_history.specs.declared.scenario.ScriptPart.{ScriptPart}
use Rattle.mq_history.specs.declared.scripts.ScriptLine.{ScriptLine}
use Rattle.mq_calls.specs.Recovery.{AreKnown, IsImage}
use Rattle.mq_ways.specs.Ways.{CableState}
use Rattle.mq_spec_node.specs.Terms.{Entry}
use Rattle.mq_spec_node.specs.Words.{wait_of}
use Rattle.mq_spec_network.specs.Given.{surroundings}
use Rattle.mq_spec_network.specs.Lawful.{AreOwn}
use Rattle.mq_spec_network.specs.Story.{entries_at}
use Rattle.mq_nodes.specs.Course.{Course}
use Rattle.mq_nodes.specs.Texts.{AllFit}
use Rattle.mq_course.specs.Courses.{course_of}
use Rattle.mq_progress.specs.Course as progress
use Rattle.mq_progress.specs.Course.{Stands}
use Rattle.mq_watch.specs.from_events.States.{NodeState, IsKept}
use Rattle.mq_watch.specs.from_events.Texts.{IsTextCommand}
use Rattle.mq_shared.specs.from_split.Facing.{AreJoined}

-- The scenario; each manager's node, each script's progress; the lines of cables, and what lies on each; the manager of each
-- rules table; the monitors.
pub record NetState : Type 0 where
  pub scenario : Scenario
  pub nodes : List NodeState
  pub scripts : List progress.Course
  pub lines : List CableLine
  pub cables : List CableState
  pub handlers : List ℕ
  pub monitors : List MonitorLine

-- what a course of steps sees of it
abbrev pub history_in : NodeState → History
history_in n = n.history

abbrev pub histories_in : NetState → List History
histories_in w = map history_in w.nodes

abbrev pub until_of : Option progress.Course → Option ℕ
until_of None = None
until_of (Some c) = c.until

abbrev pub waits_in : NetState → ℕ → Option ℕ
waits_in w k = until_of (slice_get w.scripts k)

abbrev pub course_in : NetState → Course
course_in w = course_of w.scenario (histories_in w) (waits_in w)

-- a deadline is kept of a get that waits alone
abbrev pub WaitsSo : Option ℕ → ScriptLine → Type 0
WaitsSo None l = Unit {0}
WaitsSo (Some until) l = IsSome (wait_of l)

-- a script's progress is its manager's history's
pub record IsScriptAt (k : ℕ) (p : ScriptPart) (es : List Entry) (c : progress.Course) : Type 0 where
  pub stands : Stands k p es c
  pub few : c.done ≤ length p.lines
  pub waits : (l : ScriptLine) → slice_get p.lines c.done ≡ Some l → WaitsSo c.until l

-- a node is its manager's of the scenario, begun from an image of it, with room for the marks of all steps
pub record IsNodeAt (s : Scenario) (m : ℕ) (n : NodeState) : Type 0 where
  pub image : IsImage n.history.opening
  pub known : AreKnown (m + 1) n.history.opening
  pub given : n.given ≡ surroundings s m
  pub keeps : IsKept n
  pub room : length s.steps ≤ n.marks + length n.history.marks

pub record IsNetwork (w : NetState) : Type 0 where
  pub scenario : IsScenario w.scenario
  pub texts : AllFit IsTextCommand w.scenario
  pub all : length w.nodes ≡ length w.scenario.managers
  pub nodes : (m : ℕ) (n : NodeState) → slice_get w.nodes m ≡ Some n → IsNodeAt w.scenario m n
  pub each : length w.scripts ≡ length w.scenario.scripts
  pub scripts : (k : ℕ) (p : ScriptPart) (c : progress.Course) → slice_get w.scenario.scripts k ≡ Some p → slice_get w.scripts k ≡ Some c → IsScriptAt k p (entries_at (histories_in w) p.manager) c
  pub lines : w.lines ≡ w.scenario.cables
  pub joined : length w.cables ≡ length w.scenario.cables
  pub ways : AreJoined w.scenario.cables (entries_at (histories_in w)) w.cables
  pub handlers : w.handlers ≡ map (λ (r : RulesPart). r.manager) w.scenario.rules
  pub monitors : w.monitors ≡ w.scenario.monitors

-- another node stands at a manager's place
abbrev pub with_node : ℕ → NodeState → NetState → NetState
with_node m n w = record w { nodes = slice_set w.nodes m n }

-- and a script has come further
abbrev pub with_script : ℕ → progress.Course → NetState → NetState
with_script k c w = record w { scripts = slice_set w.scripts k c }

-- and something else lies on a cable
abbrev pub with_cable : ℕ → CableState → NetState → NetState
with_cable k c w = record w { cables = slice_set w.cables k c }

-- where no restart of its managers was from a log that was changed from outside, none is
abbrev pub StaysOwnIn : NetState → NetState → Type 0
StaysOwnIn old new = AreOwn (histories_in old) → AreOwn (histories_in new)
