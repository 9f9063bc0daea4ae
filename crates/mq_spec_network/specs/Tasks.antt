-- What is left of a step: tasks, the first one first.
use Rattle.std.specs.Prelude.{ℕ, suc, Bool, false, List, [], ◌∷◌, ◌++◌, Option, Some, None, slice_get}
use Rattle.mq_spec_network.specs.Terms.{Hconn, Command, Actor, Call, ManagerLine, MonitorLine, RulesPart, ScriptPart, Section, Scenario, Step, ScriptLine, Node}
use Rattle.mq_spec_node.specs.from_history.ActVariants as acts
use Rattle.mq_spec_node.specs.from_history.ActorVariants as actors
use Rattle.mq_spec_node.specs.from_history.CallVariants as calls
use Rattle.mq_spec_node.specs.from_history.StepVariants as steps
use Rattle.mq_spec_network.specs.Turns.{Network, node_at}

-- what a cable is given in a pump's rounds
pub data Slot : Type 0 where
  Sends : Slot
  Receives : Slot
  TimesOut : Slot

-- a script of a phase, and the moment with which the phase began at its manager
pub record Trying : Type 0 where
  pub script : ℕ
  pub part : ScriptPart
  pub moment : ℕ

pub data Task : Type 0 where
  -- this call, by this actor, at this manager
  Ask : (m : ℕ) → (actor : Actor) → (call : Call) → Task
  -- a script's lines that are left then, at most so many; the first may have been tried at that moment
  Script : (k : ℕ) → (p : ScriptPart) → (tried : Option ℕ) → (most : Option ℕ) → Task
  -- just these lines of it
  Lines : (k : ℕ) → (p : ScriptPart) → (tried : Option ℕ) → (ls : List ScriptLine) → Task
  -- scripts and channel ends, in any order
  Phase : (scripts : List Trying) → Task
  -- so many turns, from this slot of this cable on; whether a turn of the round was taken
  Pump : (left : ℕ) → (slot : Slot) → (cable : ℕ) → (any : Bool) → Task
  -- so many turns of a handler, of a monitor
  Handle : (k : ℕ) → (m : ℕ) → (left : ℕ) → Task
  Serve : (k : ℕ) → (l : MonitorLine) → (left : ℕ) → Task
  -- a monitor that isn't connected connects, and opens its queue
  Watch : (k : ℕ) → (l : MonitorLine) → Task
  Open : (k : ℕ) → (l : MonitorLine) → (hc : Hconn) → Task
  -- a restart, if the manager is down
  Restart : (m : ℕ) → Task

abbrev pub obey_all : ℕ → List Command → List Task
obey_all m [] = []
obey_all m (c ∷ cs) = Ask m actors.Operator (calls.Act (acts.Obey c)) ∷ obey_all m cs

abbrev pub clocks_from : ℕ → List ManagerLine → ℕ → List Task
clocks_from m [] ms = []
clocks_from m (l ∷ ls) ms = Ask m actors.Clock (calls.Act (acts.Clock ms)) ∷ clocks_from (suc m) ls ms

-- the clock of each manager
abbrev pub clocks : Scenario → ℕ → List Task
clocks s ms = clocks_from 0 s.managers ms

abbrev pub moment_of : Option Node → ℕ
moment_of None = 0
moment_of (Some n) = n.manager.moment

-- The parts of a scenario that a step names.
abbrev pub obey_section : Option Section → List Task
obey_section None = []
obey_section (Some part) = obey_all part.manager part.commands

abbrev pub run_script : ℕ → Option ℕ → Option ScriptPart → List Task
run_script k most None = []
run_script k most (Some p) = Script k p None most ∷ []

abbrev pub handle_with : ℕ → ℕ → Option RulesPart → List Task
handle_with k n None = []
handle_with k n (Some r) = Handle k r.manager n ∷ []

abbrev pub watch_by : ℕ → Option MonitorLine → List Task
watch_by k None = []
watch_by k (Some l) = Watch k l ∷ []

abbrev pub serve_by : ℕ → ℕ → Option MonitorLine → List Task
serve_by k n None = []
serve_by k n (Some l) = Serve k l n ∷ []

-- the scripts of a phase
abbrev pub try_one : Network → ℕ → Option ScriptPart → List Trying
try_one w k None = []
try_one w k (Some p) = record { script = k; part = p; moment = moment_of (node_at w p.manager) } ∷ []

abbrev pub try_all : Network → List ℕ → List Trying
try_all w [] = []
try_all w (k ∷ ks) = try_one w k (slice_get w.scenario.scripts k) ++ try_all w ks

-- after a phase each of its scripts is finished
abbrev pub finish : List Trying → List Task
finish [] = []
finish (t ∷ ts) = Script t.script t.part (Some t.moment) None ∷ finish ts

-- With what a step begins.
abbrev pub tasks_of : Network → Step → List Task
tasks_of w (steps.Obey k) = obey_section (slice_get w.scenario.sections k)
tasks_of w (steps.Do m c) = Ask m actors.Operator (calls.Act (acts.Obey c)) ∷ []
tasks_of w (steps.Run k n) = run_script k n (slice_get w.scenario.scripts k)
tasks_of w (steps.Phase ks) = Phase (try_all w ks) ∷ finish (try_all w ks)
tasks_of w (steps.Pump n) = Pump n Sends 0 false ∷ []
tasks_of w (steps.Handle k n) = handle_with k n (slice_get w.scenario.rules k)
tasks_of w (steps.Watch k) = watch_by k (slice_get w.scenario.monitors k)
tasks_of w (steps.Serve k n) = serve_by k n (slice_get w.scenario.monitors k)
tasks_of w (steps.Crash m) = Ask m actors.Operator (calls.Act acts.Crash) ∷ []
tasks_of w (steps.Restart m) = Ask m actors.Operator (calls.Act acts.Restart) ∷ []
tasks_of w (steps.Cut m k) = Ask m actors.Operator (calls.Act (acts.Cut k)) ∷ []
tasks_of w (steps.Clock ms) = clocks w.scenario ms

-- Last come the restarts of managers that are down.
abbrev pub restarts_from : ℕ → List ManagerLine → List Task
restarts_from m [] = []
restarts_from m (l ∷ ls) = Restart m ∷ restarts_from (suc m) ls

abbrev pub tasks_next : Network → List Step → List Task
tasks_next w [] = restarts_from 0 w.scenario.managers
tasks_next w (step ∷ rest) = tasks_of w step
