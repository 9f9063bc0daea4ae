-- A PUMP over a cable that drops its first frame: the session is hardened, BIND is offered and lost, and after a round of
-- none comes the timeout.
use Rattle.std.specs.Prelude.{◌≡◌, ℕ, true, false, List, [], ◌∷◌, Some, None, refl, codes}
use Rattle.mq_spec_node.specs.from_frame.SeenVariants as items
use Rattle.mq_spec_node.specs.from_history.{Actor, CableLine, Call, Entry, History, Scenario}
use Rattle.mq_spec_node.specs.from_history.ActorVariants as actors
use Rattle.mq_spec_node.specs.from_history.CallVariants as calls
use Rattle.mq_spec_node.specs.from_cable.FaultVariants.{Drop}
use Rattle.mq_spec_node.specs.from_history.StepVariants as steps
use Rattle.mq_spec_node.specs.Node.{Node}
use Rattle.mq_spec_node.specs.Happens.{event}
use Rattle.mq_spec_node.specs.Replays.{opening_node}
use Rattle.mq_spec_node.proofs.Pair.{at_london, at_paris, image, channel, runs, entry_of, start}
use Rattle.mq_spec_network.specs.Given.{surroundings}
use Rattle.mq_spec_network.specs.Turns.{Network, does, is_idle, out_of}
use Rattle.mq_spec_network.specs.Tasks.{Task, tasks_of}
use Rattle.mq_spec_network.specs.Tasks.Slot.{Sends, TimesOut}
use Rattle.mq_spec_network.specs.Tasks.Task.{Pump}
use Rattle.mq_spec_network.specs.Steps.{Goes, Served, TakesTurn, turn_in, PumpSkips}
use Rattle.mq_spec_network.specs.Steps.Goes.{stays}
use Rattle.mq_spec_network.specs.Lawful.{network_begun}
use Rattle.mq_spec_network.proofs.Rounds.{two_served, takes, skips, ends}

abbrev cable : CableLine
cable = record { channel = channel; sender = 0; receiver = 1; out = Drop 1 ∷ []; back = [] }

abbrev scenario : Scenario
scenario = record {
  moment = None;
  managers = record { name = codes "LONDON"; log_max = 268435456 } ∷ record { name = codes "PARIS"; log_max = 268435456 } ∷ [];
  cables = cable ∷ [];
  sections = [];
  rules = [];
  scripts = [];
  monitors = [];
  steps = steps.Pump 3 ∷ [];
}

abbrev london : List Entry → History
london es = record { number = 1; name = codes "LONDON"; opening = image (at_london 1) []; length = 1; moment = 0; entries = es; marks = [] }

abbrev paris : History
paris = record { number = 2; name = codes "PARIS"; opening = image at_paris []; length = 1; moment = 0; entries = []; marks = [] }

abbrev node0 : Node
node0 = opening_node (surroundings scenario 0) (london [])

abbrev entry : ℕ → Actor → Call → Node → Entry
entry stamp actor call n = entry_of stamp actor call runs items.Nothing (event stamp actor call runs items.Nothing n)

abbrev then : ℕ → Actor → Call → Node → Node
then stamp actor call n = (event stamp actor call runs items.Nothing n).next

abbrev started : Node
started = then 1 actors.Operator (calls.Act start) node0

abbrev in_session : Node
in_session = then 2 (actors.Sender 0) calls.Turn started

abbrev binding : Node
binding = then 3 (actors.Sender 0) calls.Turn in_session

abbrev starts : Entry
starts = entry 1 actors.Operator (calls.Act start) node0

abbrev hardens : Entry
hardens = entry 2 (actors.Sender 0) calls.Turn started

abbrev binds : Entry
binds = entry 3 (actors.Sender 0) calls.Turn in_session

abbrev times_out : Entry
times_out = entry 4 (actors.Sender 0) calls.Timeout binding

abbrev network : Network
network = does 0 (starts ∷ []) (network_begun scenario (london [] ∷ paris ∷ []))

abbrev hardened : Network
hardened = does 0 (hardens ∷ []) network

abbrev dropped : Network
dropped = does 0 (binds ∷ []) hardened

abbrev timed_out : Network
timed_out = does 0 (times_out ∷ []) dropped

-- BIND was offered, and nothing lies on the cable
nothing_lies : out_of timed_out 0 cable ≡ []
nothing_lies = refl

-- something can change before and after
busy_before : is_idle network ≡ false
busy_before = refl

busy_after : is_idle timed_out ≡ false
busy_after = refl

-- Slot by slot.
abbrev Is_left : Network → List Task → Type 0
Is_left w ts = Goes network (tasks_of network (steps.Pump 3)) w ts

served_hardened : Served hardened
served_hardened = two_served hardened (λ m. refl) refl refl

served_dropped : Served dropped
served_dropped = two_served dropped (λ m. refl) refl refl

hardens_first : TakesTurn (turn_in network Sends 0 cable) 0 hardens
hardens_first = record { changes = refl; is = (refl, refl, refl); popped = refl; extras = refl }

binds_then : TakesTurn (turn_in hardened Sends 0 cable) 0 binds
binds_then = record { changes = refl; is = (refl, refl, refl); popped = refl; extras = refl }

times_out_last : TakesTurn (turn_in dropped TimesOut 0 cable) 0 times_out
times_out_last = record { changes = refl; is = (refl, refl, refl); popped = refl; extras = refl }

first_round : Is_left hardened (Pump 2 Sends 0 false ∷ [])
first_round = skips _ (skips _ (takes 0 hardens stays hardens_first) served_hardened (refl, refl)) served_hardened refl

second_round : Is_left dropped (Pump 1 Sends 0 false ∷ [])
second_round = skips _ (skips _ (takes 0 binds first_round binds_then) served_dropped (refl, refl)) served_dropped refl

round_of_none : Is_left dropped (Pump 1 TimesOut 0 false ∷ [])
round_of_none = skips _ (skips _ (skips _ second_round served_dropped (refl, refl)) served_dropped (refl, refl)) served_dropped refl

the_pump : Is_left timed_out []
the_pump = ends (takes 0 times_out round_of_none times_out_last) (two_served timed_out (λ m. refl) refl refl)

-- a turn that would change something isn't skipped, nor does a timeout come in its place
true_or_false : true ≡ false → ⊥
true_or_false e = absurd cc

not_skipped : (next : List Task) → PumpSkips network 3 Sends 0 false (Some cable) next → ⊥
not_skipped next h = true_or_false h.0
