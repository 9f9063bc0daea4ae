-- A monitor that is served: a put triggers its queue, the monitor's get begins the script that the trigger message names,
-- and that script runs to its end.
use Rattle.std.specs.Prelude.{◌≡◌, ℕ, true, false, List, [], ◌∷◌, Some, None, codes, refl}
use Rattle.mq_spec_node.specs.from_heads.Headers.{tm_read, tm_bytes, tm_in}
use Rattle.mq_spec_node.specs.from_message.Layout.{long_bytes, long_of}
use Rattle.mq_spec_node.specs.from_objects.{Object}
use Rattle.mq_spec_node.specs.from_objects.TriggerTypeVariants as triggers
use Rattle.mq_spec_node.specs.from_objects.SettingVariants as settings
use Rattle.mq_spec_node.specs.from_objects.SubjectVariants as subjects
use Rattle.mq_spec_node.specs.from_frame.SeenVariants as items
use Rattle.mq_spec_node.specs.from_history.{Actor, Call, Entry, History, MonitorLine, Scenario, ScriptPart}
use Rattle.mq_spec_node.specs.from_history.ActorVariants as actors
use Rattle.mq_spec_node.specs.from_history.CallVariants as calls
use Rattle.mq_spec_node.specs.from_history.StepVariants as steps
use Rattle.mq_spec_node.specs.from_history.ScriptLineVariants as lines
use Rattle.mq_spec_node.specs.from_spec_manager.Commands.{defined_object}
use Rattle.mq_spec_node.proofs.from_spec_manager.Script.{connection, handle, plain_md}
use Rattle.mq_spec_node.specs.Node.{Node}
use Rattle.mq_spec_node.specs.Happens.{event}
use Rattle.mq_spec_node.specs.Replays.{opening_node}
use Rattle.mq_spec_node.specs.Scripts.{script_appl}
use Rattle.mq_spec_node.proofs.Pair.{entry_of, runs, image}
use Rattle.mq_spec_network.specs.Given.{surroundings}
use Rattle.mq_spec_network.specs.Turns.{Network, node_at, does}
use Rattle.mq_spec_node.specs.Monitors.{monitor_get, begins, shared}
use Rattle.mq_spec_network.specs.Tasks.{Task, tasks_of}
use Rattle.mq_spec_network.specs.Tasks.Task.{Script, Lines, Serve}
use Rattle.mq_spec_network.specs.Steps.{Goes, Served, Moves, MonitorGets, serves_nothing, scripts_at, left_by}
use Rattle.mq_spec_network.specs.Steps.Goes.{stays, moves, passes}
use Rattle.mq_spec_network.specs.Lawful.{network_begun}
use Rattle.mq_spec_network.proofs.Rounds.{one_served}

-- every message on Q makes a trigger due, whose process names script B
abbrev defined : List Object
defined =
    defined_object (subjects.Local (codes "INITQ")) []
    ∷ defined_object (subjects.Process (codes "P")) (settings.ApplId (codes "B") ∷ [])
    ∷ defined_object (subjects.Local (codes "Q")) (settings.Trigger true ∷ settings.TriggerType triggers.Every ∷ settings.InitiationQueue (codes "INITQ") ∷ settings.Process (codes "P") ∷ [])
    ∷ []

abbrev script_a : ScriptPart
script_a = record { label = codes "A"; manager = 0; lines = [] }

abbrev script_b : ScriptPart
script_b = record { label = codes "B"; manager = 0; lines = lines.Mqconn [] ∷ [] }

abbrev monitor : MonitorLine
monitor = record { label = codes "M"; manager = 0; queue = codes "INITQ" }

abbrev scenario : Scenario
scenario = record {
  moment = None;
  managers = record { name = codes "LONDON"; log_max = 268435456 } ∷ [];
  cables = [];
  sections = [];
  rules = [];
  scripts = script_a ∷ script_b ∷ [];
  monitors = monitor ∷ [];
  steps = steps.Serve 0 5 ∷ [];
}

abbrev london : List Entry → History
london es = record { number = 1; name = codes "LONDON"; opening = image defined []; length = 1; moment = 0; entries = es; marks = [] }

abbrev node0 : Node
node0 = opening_node (surroundings scenario 0) (london [])

abbrev entry : ℕ → Actor → Call → Node → Entry
entry stamp actor call n = entry_of stamp actor call runs items.Nothing (event stamp actor call runs items.Nothing n)

abbrev then : ℕ → Actor → Call → Node → Node
then stamp actor call n = (event stamp actor call runs items.Nothing n).next

-- the monitor watches its queue, a script puts one message, and its trigger is served
abbrev monitor_connects : Call
monitor_connects = calls.Mqconn [] (script_appl (codes "M"))

abbrev monitor_opens : Call
monitor_opens = calls.Mqopen (connection 1) (codes "INITQ") [] shared

abbrev script_connects : Call
script_connects = calls.Mqconn [] (script_appl (codes "A"))

abbrev puts : Call
puts = calls.Mqput1 (connection 2) (codes "Q") [] plain_md (codes "X") false

abbrev node1 : Node
node1 = then 1 (actors.Monitor 0) monitor_connects node0

abbrev node2 : Node
node2 = then 2 (actors.Monitor 0) monitor_opens node1

abbrev node3 : Node
node3 = then 3 (actors.Script 0) script_connects node2

abbrev node4 : Node
node4 = then 4 (actors.Script 0) puts node3

abbrev node5 : Node
node5 = then 5 (actors.Script 0) calls.Trigger node4

abbrev before : List Entry
before =
    entry 1 (actors.Monitor 0) monitor_connects node0
    ∷ entry 2 (actors.Monitor 0) monitor_opens node1
    ∷ entry 3 (actors.Script 0) script_connects node2
    ∷ entry 4 (actors.Script 0) puts node3
    ∷ entry 5 (actors.Script 0) calls.Trigger node4
    ∷ []

abbrev network : Network
network = does 0 before (network_begun scenario (london [] ∷ []))

-- The monitor's turn, and the script that it begins.
abbrev gets : Call
gets = calls.Mqget (connection 1) (handle 1) monitor_get None

abbrev began : Call
began = calls.Mqconn [] (script_appl (codes "B"))

abbrev node6 : Node
node6 = then 6 (actors.Monitor 0) gets node5

abbrev got : Entry
got = entry 6 (actors.Monitor 0) gets node5

abbrev ran : Entry
ran = entry 7 (actors.Script 1) began node6

busy : serves_nothing 0 (node_at network 0) ≡ false
unfolding tm_bytes long_bytes
busy = refl

-- its get begins script B, of which no line was done
it_begins_b : begins (scripts_at (node_at network 0)) (network.done 0) got.reply ≡ Some 1
unfolding tm_read tm_bytes tm_in long_bytes long_of
it_begins_b = refl

the_turn : MonitorGets 0 monitor network 0 got
unfolding tm_bytes long_bytes
the_turn = (refl, refl, refl, refl)

-- a monitor may not do anything else in its turn
not_its_get : Some (calls.Mqcmit (connection 1)) ≡ Some gets → ⊥
not_its_get e = absurd cc

no_commit : MonitorGets 0 monitor network 0 (entry 6 (actors.Monitor 0) (calls.Mqcmit (connection 1)) node5) → ⊥
no_commit (now, at, by, call) = not_its_get call

abbrev served : Network
served = does 0 (got ∷ []) network

abbrev done : Network
done = does 0 (ran ∷ []) served

idle_then : serves_nothing 0 (node_at done 0) ≡ true
unfolding tm_bytes long_bytes
idle_then = refl

none_due_then : Served served
unfolding tm_bytes long_bytes
none_due_then = one_served served (λ m. refl) refl

none_due_at_last : Served done
unfolding tm_bytes long_bytes
none_due_at_last = one_served done (λ m. refl) refl

abbrev IsLeft : Network → List Task → Type 0
IsLeft w ts = Goes network (tasks_of network (steps.Serve 0 5)) w ts

after_the_get : left_by network (Serve 0 monitor 5) got ≡ Script 1 script_b None None ∷ Serve 0 monitor 4 ∷ []
unfolding tm_read tm_bytes tm_in long_bytes long_of
after_the_get = refl

has_got : IsLeft served (Script 1 script_b None None ∷ Serve 0 monitor 4 ∷ [])
unfolding tm_read tm_bytes tm_in long_bytes long_of
has_got = moves network (Serve 0 monitor 5) [] 0 got stays the_turn

has_lines : IsLeft served (Lines 1 script_b None (lines.Mqconn [] ∷ []) ∷ Serve 0 monitor 4 ∷ [])
has_lines = passes served (Script 1 script_b None None) (Lines 1 script_b None (lines.Mqconn [] ∷ []) ∷ []) (Serve 0 monitor 4 ∷ []) has_got none_due_then refl

b_line : Moves served (Lines 1 script_b None (lines.Mqconn [] ∷ [])) 0 ran
b_line = record { until = refl; is = (refl, refl, refl) }

has_run : IsLeft done (Lines 1 script_b None [] ∷ Serve 0 monitor 4 ∷ [])
has_run = moves served (Lines 1 script_b None (lines.Mqconn [] ∷ [])) (Serve 0 monitor 4 ∷ []) 0 ran has_lines b_line

is_done : IsLeft done (Serve 0 monitor 4 ∷ [])
is_done = passes done (Lines 1 script_b None []) [] (Serve 0 monitor 4 ∷ []) has_run none_due_at_last refl

the_step : IsLeft done []
the_step = passes done (Serve 0 monitor 4) [] [] is_done none_due_at_last (idle_then, refl)

-- A trigger turn is no line of a script: B's line would be left.
abbrev triggered : Entry
triggered = entry 7 (actors.Script 1) calls.Trigger node6

not_connects : calls.Trigger ≡ began → ⊥
not_connects e = absurd cc

no_trigger_for_a_line : Moves served (Lines 1 script_b None (lines.Mqconn [] ∷ [])) 0 triggered → ⊥
no_trigger_for_a_line h = not_connects h.is.2
