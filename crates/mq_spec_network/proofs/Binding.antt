-- A PUMP of two managers: five turns until nothing can change any more, and the cable carries BIND one way and STATUS the
-- other.
use Rattle.std.specs.Prelude.{◌≡◌, ℕ, true, false, List, [], ◌∷◌, None, refl, codes}
use Rattle.std.proofs.Common.{arith, inl, inr}
use Rattle.mq_spec_node.specs.from_frame.{Frame, Seen}
use Rattle.mq_spec_node.specs.from_frame.FrameKindVariants.{Bind, Status}
use Rattle.mq_spec_node.specs.from_frame.SeenVariants as items
use Rattle.mq_spec_node.specs.from_history.{Actor, CableLine, Call, Entry, History, Scenario}
use Rattle.mq_spec_node.specs.from_history.ActorVariants as actors
use Rattle.mq_spec_node.specs.from_history.CallVariants as calls
use Rattle.mq_spec_node.specs.from_cable.{Fault}
use Rattle.mq_spec_node.specs.from_history.StepVariants as steps
use Rattle.mq_spec_node.specs.Node.{Node}
use Rattle.mq_spec_node.specs.Happens.{event}
use Rattle.mq_spec_node.specs.Replays.{opening_node}
use Rattle.mq_spec_node.proofs.Pair.{at_london, at_paris, image, channel, runs, entry_of, start}
use Rattle.mq_spec_network.specs.Given.{surroundings}
use Rattle.mq_spec_network.specs.Cables.{whole}
use Rattle.mq_spec_network.specs.Turns.{Network, does, is_idle}
use Rattle.mq_spec_network.specs.Tasks.{Task, tasks_of}
use Rattle.mq_spec_network.specs.Tasks.Slot.{Sends, Receives}
use Rattle.mq_spec_network.specs.Tasks.Task.{Pump}
use Rattle.mq_spec_network.specs.Steps.{Goes, Served, TakesTurn, turn_in}
use Rattle.mq_spec_network.specs.Steps.Goes.{stays}
use Rattle.mq_spec_network.specs.Lawful.{IsCarried, network_begun, ends_idle}
use Rattle.mq_spec_network.proofs.Rounds.{two_served, takes, skips, rests}

abbrev pub cable_with : List Fault → CableLine
cable_with faults = record { channel = channel; sender = 0; receiver = 1; out = faults; back = [] }

abbrev pub scenario_with : List Fault → Scenario
scenario_with faults = record {
  moment = None;
  managers = record { name = codes "LONDON"; log_max = 268435456 } ∷ record { name = codes "PARIS"; log_max = 268435456 } ∷ [];
  cables = cable_with faults ∷ [];
  sections = [];
  rules = [];
  scripts = [];
  monitors = [];
  steps = steps.Pump 100 ∷ [];
}

abbrev cable : CableLine
cable = cable_with []

abbrev scenario : Scenario
scenario = scenario_with []

abbrev pub london : List Entry → History
london es = record { number = 1; name = codes "LONDON"; opening = image (at_london 1) []; length = 1; moment = 0; entries = es; marks = [] }

abbrev pub paris : List Entry → History
paris es = record { number = 2; name = codes "PARIS"; opening = image at_paris []; length = 1; moment = 0; entries = es; marks = [] }

abbrev pub london0 : Node
london0 = opening_node (surroundings scenario 0) (london [])

abbrev pub paris0 : Node
paris0 = opening_node (surroundings scenario 1) (paris [])

abbrev pub entry : ℕ → Actor → Call → Seen → Node → Entry
entry stamp actor call seen n = entry_of stamp actor call runs seen (event stamp actor call runs seen n)

abbrev pub then : ℕ → Actor → Call → Seen → Node → Node
then stamp actor call seen n = (event stamp actor call runs seen n).next

-- the two frames: BIND of session 1, and STATUS that names no unit
abbrev pub bind : Frame
bind = record { stamp = 3; session = 1; kind = Bind 0 false }

abbrev pub status : Frame
status = record { stamp = 5; session = 1; kind = Status 0 0 0 }

abbrev pub started : Node
started = then 1 actors.Operator (calls.Act start) items.Nothing london0

abbrev pub in_session : Node
in_session = then 2 (actors.Sender 0) calls.Turn items.Nothing started

abbrev pub binding : Node
binding = then 3 (actors.Sender 0) calls.Turn items.Nothing in_session

abbrev pub bound : Node
bound = then 4 (actors.Receiver 0) calls.Turn (items.Frame bind) paris0

abbrev pub starts : Entry
starts = entry 1 actors.Operator (calls.Act start) items.Nothing london0

abbrev pub hardens : Entry
hardens = entry 2 (actors.Sender 0) calls.Turn items.Nothing started

abbrev pub binds : Entry
binds = entry 3 (actors.Sender 0) calls.Turn items.Nothing in_session

abbrev pub is_bound : Entry
is_bound = entry 4 (actors.Receiver 0) calls.Turn (items.Frame bind) paris0

abbrev pub answers : Entry
answers = entry 5 (actors.Receiver 0) calls.Turn items.Nothing bound

abbrev pub runs_now : Entry
runs_now = entry 6 (actors.Sender 0) calls.Turn (items.Frame status) binding

abbrev histories : List History
histories = london (starts ∷ hardens ∷ binds ∷ runs_now ∷ []) ∷ paris (is_bound ∷ answers ∷ []) ∷ []

-- before the PUMP London has started its channel
abbrev pub network_with : List Fault → Network
network_with faults = does 0 (starts ∷ []) (network_begun (scenario_with faults) (london [] ∷ paris [] ∷ []))

abbrev network : Network
network = network_with []

-- Turn by turn.
abbrev after1 : Network
after1 = does 0 (hardens ∷ []) network

abbrev after3 : Network
after3 = does 0 (binds ∷ []) after1

abbrev after4 : Network
after4 = does 1 (is_bound ∷ []) after3

abbrev after6 : Network
after6 = does 1 (answers ∷ []) after4

abbrev after7 : Network
after7 = does 0 (runs_now ∷ []) after6

idle_then : is_idle after7 ≡ true
idle_then = refl

abbrev IsLeft : Network → List Task → Type 0
IsLeft w ts = Goes network (tasks_of network (steps.Pump 100)) w ts

turn1 : TakesTurn (turn_in network Sends 0 cable) 0 hardens
turn1 = record { changes = refl; is = (refl, refl, refl); popped = refl; extras = refl }

turn3 : TakesTurn (turn_in after1 Sends 0 cable) 0 binds
turn3 = record { changes = refl; is = (refl, refl, refl); popped = refl; extras = refl }

turn4 : TakesTurn (turn_in after3 Receives 0 cable) 1 is_bound
turn4 = record { changes = refl; is = (refl, refl, refl); popped = refl; extras = refl }

turn6 : TakesTurn (turn_in after4 Receives 0 cable) 1 answers
turn6 = record { changes = refl; is = (refl, refl, refl); popped = refl; extras = refl }

turn7 : TakesTurn (turn_in after6 Sends 0 cable) 0 runs_now
turn7 = record { changes = refl; is = (refl, refl, refl); popped = refl; extras = refl }

served1 : Served after1
served1 = two_served after1 (λ m. refl) refl refl

served4 : Served after4
served4 = two_served after4 (λ m. refl) refl refl

served6 : Served after6
served6 = two_served after6 (λ m. refl) refl refl

served7 : Served after7
served7 = two_served after7 (λ m. refl) refl refl

round1 : IsLeft after1 (Pump 99 Sends 0 false ∷ [])
round1 = skips _ (skips _ (takes 0 hardens stays turn1) served1 (refl, refl)) served1 refl

round2 : IsLeft after4 (Pump 97 Sends 0 false ∷ [])
round2 = skips _ (takes 1 is_bound (takes 0 binds round1 turn3) turn4) served4 refl

round3 : IsLeft after6 (Pump 96 Sends 0 false ∷ [])
round3 = skips _ (takes 1 answers (skips _ round2 served4 (refl, refl)) turn6) served6 refl

the_pump : IsLeft after7 []
the_pump = rests (takes 0 runs_now round3 turn7) served7 idle_then

marked : ends_idle after7 (steps.Pump 100) ≡ true
marked = refl

-- The cable carries both frames.
carried : IsCarried 0 cable histories
carried = record {
  out = record { taken = whole bind ∷ []; left = []; whole = refl; takes = inr (refl, refl, refl, (refl, refl)); within = (omega arith, tt) };
  back = record { taken = whole status ∷ []; left = []; whole = refl; takes = inl (refl, inl (refl, inl (refl, inr (refl, refl, refl, refl)))); within = (omega arith, tt) };
}
