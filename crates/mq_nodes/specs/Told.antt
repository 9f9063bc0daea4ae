-- What calls on nodes tell: one event more, or none; and what a part of a step tells of a call that does it.
use Rattle.std.specs.Prelude.{◌≡◌, ◌<◌, ◌≤◌, ◌+◌, ◌⊎◌, ◌==◌, ℕ, suc, min, Bool, true, false, List, [], ◌∷◌, ◌++◌, Option, Some, None, Result, Ok, Err, take, slice_get, length}
use Rattle.mq_history.specs.declared.calls.Actor.TheVariants as actors
use Rattle.mq_history.specs.declared.calls.Entry.{Entry}
use Rattle.mq_history.specs.declared.history.History.{History}
use Rattle.mq_history.specs.declared.calls.Call.TheVariants as calls
use Rattle.mq_history.specs.declared.scenario.MonitorLine.{MonitorLine}
use Rattle.mq_history.specs.declared.scenario.RulesPart.{RulesPart}
use Rattle.mq_history.specs.declared.scenario.Scenario.{Scenario}
use Rattle.mq_history.specs.declared.scenario.ScriptPart.{ScriptPart}
use Rattle.mq_history.specs.declared.scenario.Step.{Step}
use Rattle.mq_history.specs.declared.scripts.ScriptLine.{ScriptLine}
use Rattle.mq_spec_network.specs.from_spec_node.Node.{Node}
use Rattle.mq_spec_network.specs.from_spec_node.Monitors.{begins}
use Rattle.mq_spec_network.specs.from_spec_manager.Stops.{last_moment}
use Rattle.mq_spec_network.specs.from_spec_node.Lines.{Next, next_by, lines_by}
use Rattle.mq_spec_network.specs.from_spec_node.Scripts.{deadline, wait_of}
use Rattle.mq_spec_network.specs.from_spec_node.Lines.Next.{Ends, Waits, Makes}
use Rattle.mq_spec_network.specs.Story.{Mem, entries_at}
use Rattle.mq_spec_network.specs.Turns.{Network, node_at}
use Rattle.mq_spec_network.specs.ScriptLines.{lines_left}
use Rattle.mq_spec_network.specs.Tasks.{Task, moment_of, try_all}
use Rattle.mq_spec_network.specs.Tasks.Task.{Lines}
use Rattle.mq_spec_network.specs.Steps.{AllInPhase, Goes, Is, MonitorGets, handler_idle, scripts_at, serves_nothing}
use Rattle.mq_spec_network.specs.Lawful.{Stands, marks_at, network_begun}
use Rattle.mq_nodes.specs.declared.nodes.Stop.{Stop}
use Rattle.mq_nodes.specs.declared.nodes.Stop.TheVariants as stops
use Rattle.mq_nodes.specs.declared.nodes.Advanced.{Advanced}
use Rattle.mq_nodes.specs.declared.nodes.Advanced.TheVariants as advances
use Rattle.mq_nodes.specs.declared.nodes.Monitored.{Monitored}
use Rattle.mq_nodes.specs.declared.nodes.Monitored.TheVariants as monitors
use Rattle.mq_nodes.specs.Course.{Course, Did, Ready, Rests, IsSpent, waiting}

-- A call that does an event of which P holds. Where memory is wanting it did it or not; where it was the last that its node
-- makes, it did it.
abbrev pub Broke : (ℕ → Entry → Type 0) → Stop → Course → Course → Type 0
Broke P stops.NoMemory c d = (d ≡ c) ⊎ Did P c d
Broke P (stops.Spent m) c d = Did P c d × IsSpent m d.net

abbrev pub Does : {T : Type 0} → (ℕ → Entry → Type 0) → Result T Stop → Course → Course → Type 0
Does P (Ok x) c d = Did P c d × Ready d.net
Does P (Err stop) c d = Broke P stop c d

-- No want of memory.
abbrev pub NeverWants : {T : Type 0} → Result T Stop → Type 0
NeverWants (Ok x) = Unit {0}
NeverWants (Err stops.NoMemory) = ⊥
NeverWants (Err (stops.Spent m)) = Unit {0}

-- One that says something of the entry.
abbrev pub Says : {T : Type 0} → (ℕ → Entry → Type 0) → (T → Entry → Type 0) → Result T Stop → Course → Course → Type 0
Says P Q (Ok x) c d = Did (λ m e. P m e × Q x e) c d × Ready d.net
Says P Q (Err stop) c d = Broke P stop c d

-- One that does it, or nothing where there is none to do.
abbrev pub DoesOrNot : (ℕ → Entry → Type 0) → Type 0 → Result Bool Stop → Course → Course → Type 0
DoesOrNot P nothing (Ok true) c d = Did P c d × Ready d.net
DoesOrNot P nothing (Ok false) c d = (d ≡ c) × nothing
DoesOrNot P nothing (Err stop) c d = Broke P stop c d

-- What comes next of a script: this line of it, after which no get of the script waits.
abbrev pub IsLine : ℕ → ScriptPart → Next → ℕ → Entry → Type 0
IsLine k p Ends m e = ⊥
IsLine k p (Waits until) m e = ⊥
IsLine k p (Makes call) m e = Is p.manager (actors.Script k) call m e

abbrev pub LineOf : ℕ → ScriptPart → Next → Result Advanced Stop → Course → Course → Type 0
LineOf k p next (Ok advances.Done) c d = Did (IsLine k p next) (waiting k None c) d × Ready d.net
LineOf k p next (Ok (advances.Waiting until)) c d = (next ≡ Waits until) × (d ≡ waiting k (Some until) c)
LineOf k p next (Ok advances.Ended) c d = (next ≡ Ends) × (d ≡ c)
LineOf k p next (Err stops.NoMemory) c d = (d ≡ c) ⊎ Did (IsLine k p next) (waiting k None c) d
LineOf k p next (Err (stops.Spent m)) c d = Did (IsLine k p next) (waiting k None c) d × IsSpent m d.net

-- its node is there
abbrev pub LineAt : ℕ → ScriptPart → Option Node → Result Advanced Stop → Course → Course → Type 0
LineAt k p None r c d = ⊥
LineAt k p (Some n) r c d = LineOf k p (next_by k p (c.net.done p.manager) (c.waits k) n) r c d

abbrev pub LineTold : ℕ → ScriptPart → Result Advanced Stop → Course → Course → Type 0
LineTold k p r c d = LineAt k p (node_at c.net p.manager) r c d

-- The clocks of the first managers advance: moments rise, and nothing of a script changes.
abbrev pub later : ℕ → ℕ → ℕ
later moment ms = min (moment + ms) last_moment

pub record Clocked (upto ms : ℕ) (c d : Course) : Type 0 where
  pub moments : (m : ℕ) → m < upto → moment_of (node_at d.net m) ≡ later (moment_of (node_at c.net m)) ms
  pub others : (m : ℕ) → upto ≤ m → node_at d.net m ≡ node_at c.net m
  pub lines : (k m : ℕ) → lines_by k (d.net.done m) ≡ lines_by k (c.net.done m)
  pub waits : d.waits ≡ c.waits

-- A handler's turn.
abbrev pub HandlerOf : ℕ → RulesPart → Result Bool Stop → Course → Course → Type 0
HandlerOf k p r c d = DoesOrNot (Is p.manager (actors.Handler k) calls.Turn) (handler_idle k (node_at c.net p.manager) ≡ true) r c d

abbrev pub HandlerTold : ℕ → Result Bool Stop → Course → Course → Type 0
HandlerTold k r c d = (p : RulesPart) → slice_get c.net.scenario.rules k ≡ Some p → HandlerOf k p r c d

-- A monitor's turn: the script that it begins.
abbrev pub begun_by : Network → MonitorLine → Entry → Option ℕ
begun_by w l e = begins (scripts_at (node_at w l.manager)) (w.done l.manager) e.reply

abbrev pub TurnOf : ℕ → MonitorLine → Result Monitored Stop → Course → Course → Type 0
TurnOf k l (Ok monitors.Idle) c d = (d ≡ c) × (serves_nothing k (node_at c.net l.manager) ≡ true)
TurnOf k l (Ok (monitors.Started script)) c d = Did (λ m e. MonitorGets k l c.net m e × (begun_by c.net l e ≡ Some script)) c d × Ready d.net
TurnOf k l (Ok monitors.Got) c d = Did (λ m e. MonitorGets k l c.net m e × (begun_by c.net l e ≡ None)) c d × Ready d.net
TurnOf k l (Err stop) c d = Broke (MonitorGets k l c.net) stop c d

abbrev pub TurnTold : ℕ → Result Monitored Stop → Course → Course → Type 0
TurnTold k r c d = (l : MonitorLine) → slice_get c.net.scenario.monitors k ≡ Some l → TurnOf k l r c d

-- Tasks are done: all of them, where the call answers OK, and then no get waits that did not; else a part.
abbrev pub Ended : {T : Type 0} → Result T Stop → List Task → Course → Course → Type 0
Ended (Ok x) left c d = (left ≡ []) × Ready d.net × (Rests c → Rests d)
Ended (Err stops.NoMemory) left c d = Unit {0}
Ended (Err (stops.Spent m)) left c d = IsSpent m d.net

pub record Part {T : Type 0} (all : List Task) (r : Result T Stop) (c d : Course) : Type 0 where
  pub left : List Task
  pub goes : Goes c.net all d.net left
  pub marks : d.marks ≡ c.marks
  pub ends : Ended r left c d

-- A part is done, and another event may come.
pub record Onward (all left : List Task) (c d : Course) : Type 0 where
  pub goes : Goes c.net all d.net left
  pub ready : Ready d.net
  pub marks : d.marks ≡ c.marks
  pub rests : Rests c → Rests d

-- A script's next lines, at most so many, the first of which may have been tried at a moment.
abbrev pub upto : ℕ → ScriptPart → Option ℕ → ℕ → Course → List Task
upto k p tried n c = Lines k p tried (take n (lines_left c.net k p)) ∷ []

-- the deadline of the first of these lines, where it is a get, from the moment of its first try
abbrev pub first_until : ℕ → List ScriptLine → Option ℕ
first_until moment [] = None
first_until moment (l ∷ ls) = deadline moment (wait_of l)

-- What is kept of a script's next line: nothing, where it was not tried; else its deadline from the moment of that try.
abbrev pub KeptSo : Option ℕ → List ScriptLine → Option ℕ → Type 0
KeptSo None ls kept = kept ≡ None
KeptSo (Some moment) ls kept = kept ≡ first_until moment ls

abbrev pub IsTried : ℕ → ScriptPart → Option ℕ → Course → Type 0
IsTried k p tried c = KeptSo tried (lines_left c.net k p) (c.waits k)

abbrev pub MayTry : ℕ → ScriptPart → Course → Type 0
MayTry k p c = (tried : Option ℕ) × IsTried k p tried c

-- While one script goes on, the others keep the deadlines of their gets, and their lines; behind it its own get does not wait.
pub record Alone (k : ℕ) (c d : Course) : Type 0 where
  pub waits : (j : ℕ) → (j == k) ≡ false → d.waits j ≡ c.waits j
  pub lines : (j m : ℕ) → (j == k) ≡ false → lines_by j (d.net.done m) ≡ lines_by j (c.net.done m)
  pub rests : d.waits k ≡ None

-- One line of a script.
abbrev pub OneLine : ℕ → ScriptPart → Option ℕ → Result Bool Stop → Course → Course → Type 0
OneLine k p tried (Ok true) c d = ((n : ℕ) → Onward (upto k p tried (suc n) c) (upto k p None n d) c d) × Alone k c d
OneLine k p tried (Ok false) c d = (d ≡ c) × (lines_left c.net k p ≡ []) × (c.waits k ≡ None)
OneLine k p tried (Err stop) c d = (n : ℕ) → Part {T = Bool} (upto k p tried (suc n) c) (Err stop) c d

-- whenever it was tried first
abbrev pub LineRan : ℕ → ScriptPart → Result Bool Stop → Course → Course → Type 0
LineRan k p r c d = (tried : Option ℕ) → IsTried k p tried c → OneLine k p tried r c d

-- What each manager did in a phase of these scripts, each entry where it may stand, and in no order with what the others did;
-- nothing was noted.
pub record Phased (ks : List ℕ) (c d : Course) : Type 0 where
  pub since : ℕ → List Entry
  pub others : (m : ℕ) → length c.net.scenario.managers ≤ m → since m ≡ []
  pub net : d.net ≡ record c.net { done = λ m. c.net.done m ++ since m }
  pub phased : (m : ℕ) → m < length c.net.scenario.managers → AllInPhase (try_all c.net ks) m (c.net.done m) (since m)
  pub marks : d.marks ≡ c.marks

-- Behind it the next line of each of these scripts may have been tried, at the moment with which the phase began at its manager: where it is a
-- get, its deadline is kept from then. No other get waits.
pub record Tries (ks : List ℕ) (c d : Course) : Type 0 where
  pub others : (k : ℕ) → (Mem k ks → ⊥) → d.waits k ≡ None
  pub each : (k : ℕ) (p : ScriptPart) → Mem k ks → slice_get c.net.scenario.scripts k ≡ Some p → IsTried k p (Some (moment_of (node_at c.net p.manager))) d

abbrev pub PhaseTold : List ℕ → Result (Unit {0}) Stop → Course → Course → Type 0
PhaseTold ks (Ok done) c d = Phased ks c d × Ready d.net × Tries ks c d
PhaseTold ks (Err stops.NoMemory) c d = Phased ks c d
PhaseTold ks (Err (stops.Spent m)) c d = Phased ks c d × IsSpent m d.net

-- A run of steps: some are whole and noted; where it answers OK, all are, and the last restarts too.
abbrev pub AllDone : {T : Type 0} → Result T Stop → List Step → List Task → Course → Type 0
AllDone (Ok x) rest left d = (rest ≡ []) × (left ≡ []) × Ready d.net
AllDone (Err stops.NoMemory) rest left d = Unit {0}
AllDone (Err (stops.Spent m)) rest left d = IsSpent m d.net

pub record Ran {T : Type 0} (r : Result T Stop) (c d : Course) : Type 0 where
  pub whole : List Step
  pub rest : List Step
  pub tasks : List Task
  pub stands : Stands c.net whole rest d.marks d.net tasks
  pub ends : AllDone r rest tasks d

-- Histories that have what was done from the beginning on, and what was noted.
pub record Has (s : Scenario) (hs : List History) (c d : Course) : Type 0 where
  pub begun : c.net ≡ network_begun s hs
  pub done : (m : ℕ) → d.net.done m ≡ entries_at hs m
  pub noted : (m : ℕ) → m < length hs → marks_at hs m ≡ d.marks m
