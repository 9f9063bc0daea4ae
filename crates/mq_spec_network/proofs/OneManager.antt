-- A scenario of one manager, one section and one script: what it does is a lawful story, every step whole, and its ledger
-- holds what its queue holds.
use Rattle.std.specs.Prelude.{◌≡◌, ◌≢◌, ◌<◌, ◌≤◌, ℕ, zero, suc, ◌==◌, pos, negsuc, false, List, [], ◌∷◌, Option, Some, None, slice_get, drop, replicate, length, take, map, codes, refl}
use Rattle.std.proofs.Common.{ap, subst, arith, ◌∙◌}
use Rattle.std.proofs.lemmas.Bool.Decides.{nat_tests}
use Rattle.mq_spec_node.specs.from_queue.{Row}
use Rattle.mq_spec_node.specs.from_objects.SubjectVariants as subjects
use Rattle.mq_spec_node.specs.from_objects.CommandVariants as object_commands
use Rattle.mq_spec_node.specs.from_calls.TakeVariants as takes
use Rattle.mq_spec_node.specs.from_frame.SeenVariants as items
use Rattle.mq_spec_node.specs.from_history.ActVariants as acts
use Rattle.mq_spec_node.specs.from_sc_parse.{Command}
use Rattle.mq_spec_node.specs.from_sc_parse.CommandVariants as commands
use Rattle.mq_spec_node.specs.from_history.{Actor, CableLine, Call, Entry, GetOptions, History, Mark, PutOptions, Scenario, ScriptLine, ScriptPart}
use Rattle.mq_spec_node.specs.from_history.ActorVariants as actors
use Rattle.mq_spec_node.specs.from_history.CallVariants as calls
use Rattle.mq_spec_node.specs.from_history.StepVariants as steps
use Rattle.mq_spec_node.specs.from_history.BodyVariants as bodies
use Rattle.mq_spec_node.specs.from_history.ScriptLineVariants as lines
use Rattle.mq_spec_node.proofs.from_spec_manager.Script.{connection, handle, shared_output, ident_numbers}
use Rattle.mq_spec_node.specs.Node.{Node}
use Rattle.mq_spec_node.specs.Happens.{event}
use Rattle.mq_spec_node.specs.Replays.{NoneForeign, opening_node}
use Rattle.mq_spec_node.specs.Scripts.{script_appl, put_md, get_of}
use Rattle.mq_spec_node.proofs.Pair.{entry_of, runs, image}
use Rattle.mq_spec_network.specs.Given.{surroundings}
use Rattle.mq_spec_network.specs.Turns.{Network, does, more_at}
use Rattle.mq_spec_network.specs.Tasks.{Task, tasks_of, tasks_next}
use Rattle.mq_spec_network.specs.Tasks.Task.{Ask, Script, Lines, Restart}
use Rattle.mq_spec_network.specs.Steps.{Goes, Served, IsNext}
use Rattle.mq_spec_network.specs.Steps.Goes.{stays, moves, passes}
use Rattle.mq_spec_network.specs.Lawful.{IsHistory, IsCarried, IsFar, AreSteps, ScriptIs, IsLawful, IsDone, AreOwn, Went, Stands, network_begun, marks_at}
use Rattle.mq_spec_network.specs.Lawful.Went.{begins, ends}
use Rattle.mq_spec_network.proofs.Going.{same_network, elsewhere}
use Rattle.mq_spec_network.proofs.Rounds.{one_served}
use Rattle.mq_spec_network.specs.Story.{weave, entries_at}
use Rattle.mq_spec_network.specs.Ledger.{ledger, ledger_rows}
use Rattle.mq_spec_network.specs.Standing.{standing, managers_at, rows_told, opening_ledger}
use Rattle.mq_spec_network.specs.Conflict.{NoConflict}
use Rattle.mq_spec_network.specs.Order.{AllInOrder}
use Rattle.mq_spec_network.specs.Apart.{IsJoined}

abbrev define_q1 : Command
define_q1 = commands.Objects (object_commands.Define (record { subject = subjects.Local (codes "Q1"); replace = false; settings = [] }))

abbrev put_options : PutOptions
put_options = record {
  sync = false;
  priority = negsuc 0;
  persistence = pos 2;
  expiry = negsuc 0;
  msg_id = replicate 24 0;
  correl_id = None;
  msg_type = pos 8;
  reply_to_q = [];
  reply_to_q_mgr = [];
  format = codes "MQSTR   ";
  feedback = pos 0;
  appl_identity_data = replicate 32 32;
}

abbrev get_options : GetOptions
get_options = record { sync = false; take = takes.Next; want = record { msg_id = None; correl_id = None }; room = 4194304; truncate = false; wait = None }

abbrev script : List ScriptLine
script =
    lines.Mqconn []
    ∷ lines.Mqopen (codes "H1") (codes "Q1") [] shared_output
    ∷ lines.Mqput (codes "H1") (bodies.Text (codes "HELLO")) put_options
    ∷ lines.Mqget (codes "H1") get_options
    ∷ []

abbrev script_a : ScriptPart
script_a = record { label = codes "A"; manager = 0; lines = script }

abbrev scenario : Scenario
scenario = record {
  moment = None;
  managers = record { name = codes "LONDON"; log_max = 268435456 } ∷ [];
  cables = [];
  sections = record { label = codes "D1"; manager = 0; commands = define_q1 ∷ [] } ∷ [];
  rules = [];
  scripts = script_a ∷ [];
  monitors = [];
  steps = steps.Obey 0 ∷ steps.Run 0 None ∷ [];
}

-- what was done, entry by entry
abbrev node0 : Node
node0 = opening_node (surroundings scenario 0) (record { number = 1; name = codes "LONDON"; opening = image [] []; length = 1; moment = 0; entries = []; marks = [] })

abbrev entry : ℕ → Actor → Call → Node → Entry
entry stamp actor call n = entry_of stamp actor call runs items.Nothing (event stamp actor call runs items.Nothing n)

abbrev then : ℕ → Actor → Call → Node → Node
then stamp actor call n = (event stamp actor call runs items.Nothing n).next

abbrev obeyed : Node
obeyed = then 1 actors.Operator (calls.Act (acts.Obey define_q1)) node0

abbrev connects : Call
connects = calls.Mqconn [] (script_appl (codes "A"))

abbrev opens : Call
opens = calls.Mqopen (connection 1) (codes "Q1") [] shared_output

abbrev puts : Call
puts = calls.Mqput (connection 1) (handle 1) (put_md put_options (replicate 24 0)) (codes "HELLO") false

abbrev gets : Call
gets = calls.Mqget (connection 1) (handle 1) (get_of get_options) None

abbrev connected : Node
connected = then 2 (actors.Script 0) connects obeyed

abbrev opened : Node
opened = then 3 (actors.Script 0) opens connected

abbrev has_put : Node
has_put = then 4 (actors.Script 0) puts opened

abbrev entries : List Entry
entries =
    entry 1 actors.Operator (calls.Act (acts.Obey define_q1)) node0
    ∷ entry 2 (actors.Script 0) connects obeyed
    ∷ entry 3 (actors.Script 0) opens connected
    ∷ entry 4 (actors.Script 0) puts opened
    ∷ entry 5 (actors.Script 0) gets has_put
    ∷ []

abbrev london : History
london = record {
  number = 1;
  name = codes "LONDON";
  opening = image [] [];
  length = 1;
  moment = 0;
  entries = entries;
  marks = record { entries = 1; idle = false } ∷ record { entries = 5; idle = false } ∷ [];
}

abbrev histories : List History
histories = london ∷ []

-- no cut is armed
unarmed : {n : ℕ} → 0 < 0 → n < 0
unarmed h = omega arith

abbrev history_or : Option History → History
history_or None = london
history_or (Some h) = h

is_london : IsHistory scenario 0 london
is_london = record {
  replays = record {
    number = refl;
    name = refl;
    follows = (
      record { stamp = refl; event = unarmed; reply = refl; delta = refl; pushed = refl; received = refl; popped = tt; extras = refl },
      (
        record { stamp = refl; event = unarmed; reply = refl; delta = refl; pushed = refl; received = refl; popped = tt; extras = refl },
        (
          record { stamp = refl; event = unarmed; reply = refl; delta = refl; pushed = refl; received = refl; popped = tt; extras = refl },
          (
            record { stamp = refl; event = unarmed; reply = refl; delta = refl; pushed = refl; received = refl; popped = tt; extras = refl },
            (record { stamp = refl; event = unarmed; reply = refl; delta = refl; pushed = refl; received = refl; popped = tt; extras = refl }, tt),
          ),
        ),
      ),
    );
  };
  triggers = (tt, (tt, (tt, (tt, (tt, tt)))));
}

each_history : (m : ℕ) (h : History) → slice_get histories m ≡ Some h → IsHistory scenario m h
each_history zero h e = subst (λ x. IsHistory scenario 0 x) (ap history_or e) is_london
each_history (suc m) h e = absurd cc

no_cable : (n : ℕ) (c : CableLine) → slice_get scenario.cables n ≡ Some c → IsCarried n c histories
no_cable n c e = absurd cc

-- one manager is number 0
only_one : (n : ℕ) → n < 1 → n ≡ 0
only_one n lt = omega arith

not_zero : (n : ℕ) → 1 ≤ n → n ≢ 0
not_zero n le = λ e. omega arith

the_script : ScriptIs scenario histories 0 (record { label = codes "A"; manager = 0; lines = script })
the_script = (refl, (0, refl), (refl, (0, refl), (refl, (0, refl), (refl, (0, refl), tt))))

abbrev script_or : Option ScriptPart → ScriptPart
script_or None = record { label = codes "A"; manager = 0; lines = script }
script_or (Some p) = p

each_script : (k : ℕ) (p : ScriptPart) → slice_get scenario.scripts k ≡ Some p → ScriptIs scenario histories k p
each_script zero p e = subst (λ x. ScriptIs scenario histories 0 x) (ap script_or e) the_script
each_script (suc k) p e = absurd cc

-- Step by step, entry by entry.
abbrev network0 : Network
network0 = network_begun scenario histories

abbrev network1 : Network
network1 = does 0 (entry 1 actors.Operator (calls.Act (acts.Obey define_q1)) node0 ∷ []) network0

abbrev network2 : Network
network2 = does 0 (entry 2 (actors.Script 0) connects obeyed ∷ []) network1

abbrev network3 : Network
network3 = does 0 (entry 3 (actors.Script 0) opens connected ∷ []) network2

abbrev network4 : Network
network4 = does 0 (entry 4 (actors.Script 0) puts opened ∷ []) network3

abbrev network5 : Network
network5 = does 0 (entry 5 (actors.Script 0) gets has_put ∷ []) network4

served1 : Served network1
served1 = one_served network1 (λ m. refl) refl

served5 : Served network5
served5 = one_served network5 (λ m. refl) refl

-- the first step: the section's one command
first_step : Goes network0 (tasks_of network0 (steps.Obey 0)) network1 []
first_step = moves network0 (Ask 0 actors.Operator (calls.Act (acts.Obey define_q1))) [] 0 _ stays (refl, refl, refl)

-- the second: the script's four lines
abbrev IsLeft : Network → List Task → Type 0
IsLeft w ts = Goes network1 (tasks_of network1 (steps.Run 0 None)) w ts

line1 : IsNext network1 0 script_a None (lines.Mqconn []) 0 (entry 2 (actors.Script 0) connects obeyed)
line1 = record { until = refl; is = (refl, refl, refl) }

line2 : IsNext network2 0 script_a None (lines.Mqopen (codes "H1") (codes "Q1") [] shared_output) 0 (entry 3 (actors.Script 0) opens connected)
line2 = record { until = refl; is = (refl, refl, refl) }

line3 : IsNext network3 0 script_a None (lines.Mqput (codes "H1") (bodies.Text (codes "HELLO")) put_options) 0 (entry 4 (actors.Script 0) puts opened)
line3 = record { until = refl; is = (refl, refl, refl) }

line4 : IsNext network4 0 script_a None (lines.Mqget (codes "H1") get_options) 0 (entry 5 (actors.Script 0) gets has_put)
line4 = record { until = refl; is = (refl, refl, refl) }

begun : IsLeft network1 (Lines 0 script_a None script ∷ [])
begun = passes network1 (Script 0 script_a None None) (Lines 0 script_a None script ∷ []) [] stays served1 refl

two_lines : IsLeft network3 (Lines 0 script_a None (drop 2 script) ∷ [])
two_lines = moves network2 (Lines 0 script_a None (drop 1 script)) [] 0 _ (moves network1 (Lines 0 script_a None script) [] 0 _ begun line1) line2

four_lines : IsLeft network5 (Lines 0 script_a None [] ∷ [])
four_lines = moves network4 (Lines 0 script_a None (drop 3 script)) [] 0 _ (moves network3 (Lines 0 script_a None (drop 2 script)) [] 0 _ two_lines line3) line4

second_step : IsLeft network5 []
second_step = passes network5 (Lines 0 script_a None []) [] [] four_lines served5 refl

-- the last restarts: the one manager is up
last_restarts : Goes network5 (tasks_next network5 []) network5 []
last_restarts = passes network5 (Restart 0) [] [] stays served5 (refl, refl)

abbrev marks : ℕ → List Mark
marks m = record { entries = length (network1.done m); idle = false } ∷ record { entries = length (network5.done m); idle = false } ∷ []

both_steps : Went network0 scenario.steps marks network5
both_steps = ends (steps.Obey 0 ∷ []) _ network1 network5 (steps.Run 0 None) (ends [] _ network0 network1 (steps.Obey 0) begins first_step served1) second_step served5

above : (m : ℕ) → suc m < 1 → ⊥
above m lt = omega arith

each_mark : (m : ℕ) → m < 1 → marks_at histories m ≡ marks m
each_mark zero lt = refl
each_mark (suc m) lt = absurd (above m lt)

far_from_zero : (m : ℕ) → (suc m == 0) ≡ false
far_from_zero m = grind (arith, nat_tests)

elsewhere_one : (es : List Entry) (done : ℕ → List Entry) (m : ℕ) → more_at 0 es done (suc m) ≡ done (suc m)
elsewhere_one es done m = elsewhere 0 (suc m) es done (far_from_zero m)

at_three : (m : ℕ) → network3.done (suc m) ≡ []
at_three m = elsewhere_one _ network2.done m ∙ elsewhere_one _ network1.done m ∙ elsewhere_one _ network0.done m

at_five : (m : ℕ) → network5.done (suc m) ≡ []
at_five m = elsewhere_one _ network4.done m ∙ elsewhere_one _ network3.done m ∙ at_three m

each_entry : (m : ℕ) → network5.done m ≡ entries_at histories m
each_entry zero = refl
each_entry (suc m) = at_five m

it_is_done : IsDone scenario histories
it_is_done = record {
  marks = marks;
  now = network5;
  stands = record { before = network5; parts = refl; went = both_steps; goes = last_restarts };
  entries = each_entry;
  noted = each_mark;
}

the_steps : AreSteps scenario histories
the_steps = record { whole = scenario.steps; rest = []; tasks = []; far = it_is_done }

-- The same run, ended after its third event, is lawful too.
abbrev cut_short : List History
cut_short = record london { entries = take 3 entries; marks = record { entries = 1; idle = false } ∷ [] } ∷ []

each_entry_then : (m : ℕ) → network3.done m ≡ entries_at cut_short m
each_entry_then zero = refl
each_entry_then (suc m) = at_three m

each_mark_then : (m : ℕ) → m < 1 → marks_at cut_short m ≡ record { entries = length (network1.done m); idle = false } ∷ []
each_mark_then zero lt = refl
each_mark_then (suc m) lt = absurd (above m lt)

same_first : (m : ℕ) → network0.first m ≡ (network_begun scenario cut_short).first m
same_first zero = refl
same_first (suc m) = refl

same_start : network0 ≡ network_begun scenario cut_short
same_start = same_network network0 (network_begun scenario cut_short) refl same_first (λ m. refl)

a_part : IsFar scenario cut_short (steps.Obey 0 ∷ []) (steps.Run 0 None ∷ []) (Lines 0 script_a None (drop 2 script) ∷ [])
a_part = record {
  marks = λ m. record { entries = length (network1.done m); idle = false } ∷ [];
  now = network3;
  stands = subst (λ (w : Network). Stands w (steps.Obey 0 ∷ []) (steps.Run 0 None ∷ []) (λ m. record { entries = length (network1.done m); idle = false } ∷ []) network3 (Lines 0 script_a None (drop 2 script) ∷ [])) same_start
      (record { before = network1; parts = refl; went = ends [] _ network0 network1 (steps.Obey 0) begins first_step served1; goes = two_lines });
  entries = each_entry_then;
  noted = each_mark_then;
}

none_foreign : (m : ℕ) (h : History) → slice_get histories m ≡ Some h → NoneForeign h.entries
none_foreign zero h e = subst (λ (x : History). NoneForeign x.entries) (ap history_or e) (tt, (tt, (tt, (tt, (tt, tt)))))
none_foreign (suc m) h e = absurd cc

all_own : AreOwn histories
all_own = none_foreign

it_is_lawful : IsLawful scenario histories
it_is_lawful = record { all = refl; histories = each_history; cables = no_cable; scripts = each_script; steps = the_steps }

-- the ledger of this story has nothing left, as the queue has
nothing_left : map (λ (row : Row). ident_numbers row.message.ident) (ledger_rows 0 (codes "Q1") (ledger (opening_ledger scenario histories) (weave histories))) ≡ []
nothing_left = refl

got_once : map ident_numbers (ledger (opening_ledger scenario histories) (weave histories)).got ≡ (1 ∷ 1 ∷ 1 ∷ []) ∷ []
got_once = refl

-- its logs belong together, no operator is at odds with a receiver, and the ledger's rows are the standing ones
joined : IsJoined scenario histories
joined = record { all = refl; together = refl }

at_peace : NoConflict scenario histories (weave histories)
at_peace = refl

same_rows : rows_told (standing scenario (managers_at scenario (weave histories) histories) 0 (codes "Q1"))
    ≡ rows_told (ledger_rows 0 (codes "Q1") (ledger (opening_ledger scenario histories) (weave histories)))
same_rows = refl

in_order : AllInOrder (opening_ledger scenario histories) (weave histories)
in_order = (tt, (tt, (tt, (tt, (tt, tt)))))
