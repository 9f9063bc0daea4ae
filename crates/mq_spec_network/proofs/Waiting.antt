-- A RUN whose get waits: the clock of each manager advances to its deadline, and then it comes.
use Rattle.std.specs.Prelude.{◌≡◌, ℕ, false, List, [], ◌∷◌, Some, None, codes, refl}
use Rattle.std.proofs.Common.{sym, ◌∙◌}
use Rattle.mq_spec_node.specs.from_objects.{Object}
use Rattle.mq_spec_node.specs.from_objects.SubjectVariants as subjects
use Rattle.mq_spec_node.specs.from_calls.TakeVariants as takes
use Rattle.mq_spec_node.specs.from_frame.SeenVariants as items
use Rattle.mq_spec_node.specs.from_history.ActVariants as acts
use Rattle.mq_spec_node.specs.from_history.{Actor, Call, Entry, GetOptions, History, Scenario, ScriptLine, ScriptPart}
use Rattle.mq_spec_node.specs.from_history.ActorVariants as actors
use Rattle.mq_spec_node.specs.from_history.CallVariants as calls
use Rattle.mq_spec_node.specs.from_history.StepVariants as steps
use Rattle.mq_spec_node.specs.from_history.ScriptLineVariants as lines
use Rattle.mq_spec_node.specs.from_spec_manager.Commands.{defined_object}
use Rattle.mq_spec_node.proofs.from_spec_manager.Script.{connection, handle}
use Rattle.mq_spec_node.specs.Node.{Node}
use Rattle.mq_spec_node.specs.Happens.{event}
use Rattle.mq_spec_node.specs.Replays.{opening_node}
use Rattle.mq_spec_node.specs.Scripts.{script_appl, get_of}
use Rattle.mq_spec_node.proofs.Pair.{entry_of, runs, image}
use Rattle.mq_spec_network.specs.Given.{surroundings}
use Rattle.mq_spec_network.specs.Turns.{Network, does}
use Rattle.mq_spec_node.specs.Monitors.{shared}
use Rattle.mq_spec_network.specs.Tasks.{Task, tasks_of}
use Rattle.mq_spec_network.specs.Tasks.Task.{Ask, Script, Lines}
use Rattle.mq_spec_network.specs.Steps.{Goes, Served, IsNext, Waits}
use Rattle.mq_spec_network.specs.Steps.Goes.{stays, moves, passes}
use Rattle.mq_spec_network.specs.Lawful.{network_begun}
use Rattle.mq_spec_network.proofs.Rounds.{two_served}

abbrev get_options : GetOptions
get_options = record { sync = false; take = takes.Next; want = record { msg_id = None; correl_id = None }; room = 4194304; truncate = false; wait = Some 500 }

abbrev pub the_get : ScriptLine
the_get = lines.Mqget (codes "H1") get_options

abbrev pub script : ScriptPart
script = record { label = codes "A"; manager = 0; lines = lines.Mqconn [] ∷ lines.Mqopen (codes "H1") (codes "Q1") [] shared ∷ the_get ∷ [] }

abbrev pub scenario : Scenario
scenario = record {
  moment = None;
  managers = record { name = codes "LONDON"; log_max = 268435456 } ∷ record { name = codes "PARIS"; log_max = 268435456 } ∷ [];
  cables = [];
  sections = [];
  rules = [];
  scripts = script ∷ [];
  monitors = [];
  steps = steps.Run 0 None ∷ [];
}

abbrev defined : List Object
defined = defined_object (subjects.Local (codes "Q1")) [] ∷ []

abbrev london : History
london = record { number = 1; name = codes "LONDON"; opening = image defined []; length = 1; moment = 0; entries = []; marks = [] }

abbrev paris : History
paris = record { number = 2; name = codes "PARIS"; opening = image [] []; length = 1; moment = 0; entries = []; marks = [] }

abbrev node0 : Node
node0 = opening_node (surroundings scenario 0) london

abbrev paris0 : Node
paris0 = opening_node (surroundings scenario 1) paris

abbrev entry : ℕ → Actor → Call → Node → Entry
entry stamp actor call n = entry_of stamp actor call runs items.Nothing (event stamp actor call runs items.Nothing n)

abbrev then : ℕ → Actor → Call → Node → Node
then stamp actor call n = (event stamp actor call runs items.Nothing n).next

abbrev pub connects : Call
connects = calls.Mqconn [] (script_appl (codes "A"))

abbrev opens : Call
opens = calls.Mqopen (connection 1) (codes "Q1") [] shared

abbrev gets : Call
gets = calls.Mqget (connection 1) (handle 1) (get_of get_options) (Some 500)

abbrev pub advances : Call
advances = calls.Act (acts.Clock 500)

abbrev node1 : Node
node1 = then 1 (actors.Script 0) connects node0

abbrev node2 : Node
node2 = then 2 (actors.Script 0) opens node1

abbrev node3 : Node
node3 = then 3 actors.Clock advances node2

abbrev pub network0 : Network
network0 = network_begun scenario (london ∷ paris ∷ [])

abbrev network1 : Network
network1 = does 0 (entry 1 (actors.Script 0) connects node0 ∷ []) network0

abbrev network2 : Network
network2 = does 0 (entry 2 (actors.Script 0) opens node1 ∷ []) network1

abbrev network3 : Network
network3 = does 0 (entry 3 actors.Clock advances node2 ∷ []) network2

abbrev network4 : Network
network4 = does 1 (entry 1 actors.Clock advances paris0 ∷ []) network3

abbrev network5 : Network
network5 = does 0 (entry 4 (actors.Script 0) gets node3 ∷ []) network4

served0 : Served network0
served0 = two_served network0 (λ m. refl) refl refl

served2 : Served network2
served2 = two_served network2 (λ m. refl) refl refl

served5 : Served network5
served5 = two_served network5 (λ m. refl) refl refl

abbrev IsLeft : Network → List Task → Type 0
IsLeft w ts = Goes network0 (tasks_of network0 (steps.Run 0 None)) w ts

line1 : IsNext network0 0 script None (lines.Mqconn []) 0 (entry 1 (actors.Script 0) connects node0)
line1 = record { until = refl; is = (refl, refl, refl) }

line2 : IsNext network1 0 script None (lines.Mqopen (codes "H1") (codes "Q1") [] shared) 0 (entry 2 (actors.Script 0) opens node1)
line2 = record { until = refl; is = (refl, refl, refl) }

begun : IsLeft network0 (Lines 0 script None script.lines ∷ [])
begun = passes network0 (Script 0 script None None) (Lines 0 script None script.lines ∷ []) [] stays served0 refl

two_lines : IsLeft network2 (Lines 0 script None (the_get ∷ []) ∷ [])
two_lines = moves
    network1
    (Lines 0 script None (lines.Mqopen (codes "H1") (codes "Q1") [] shared ∷ the_get ∷ []))
    []
    0
    _
    (moves network0 (Lines 0 script None script.lines) [] 0 _ begun line1)
    line2

abbrev behind : List Task
behind = Ask 0 (actors.Script 0) gets ∷ Lines 0 script None [] ∷ []

it_waits : Waits network2 0 script None the_get [] (Ask 0 actors.Clock advances ∷ Ask 1 actors.Clock advances ∷ behind)
it_waits = record { until = 500; by = 500; tried_then = refl; waits = refl; left = refl; behind = refl }

clocks_are_due : IsLeft network2 (Ask 0 actors.Clock advances ∷ Ask 1 actors.Clock advances ∷ behind)
clocks_are_due = passes network2 (Lines 0 script None (the_get ∷ [])) (Ask 0 actors.Clock advances ∷ Ask 1 actors.Clock advances ∷ behind) [] two_lines served2 it_waits

-- a part of the step: the clocks have advanced, and the get has yet to come
clocks_advanced : IsLeft network4 behind
clocks_advanced = moves network3 (Ask 1 actors.Clock advances) behind 1 _ (moves network2 (Ask 0 actors.Clock advances) (Ask 1 actors.Clock advances ∷ behind) 0 _ clocks_are_due (refl, refl, refl)) (refl, refl, refl)

the_step : IsLeft network5 []
the_step = passes network5 (Lines 0 script None []) [] [] (moves network4 (Ask 0 (actors.Script 0) gets) (Lines 0 script None [] ∷ []) 0 _ clocks_advanced (refl, refl, refl)) served5 refl

-- A clock is no line of a script: no manager's advances before the get was tried.
not_a_line : connects ≡ advances → ⊥
not_a_line e = absurd cc

no_clock_first : (m : ℕ) (e : Entry) → e.call ≡ advances → IsNext network0 0 script None (lines.Mqconn []) m e → ⊥
no_clock_first m e clock h = not_a_line (sym h.is.2 ∙ clock)
