-- A PHASE of two scripts of one line, the second one's line first; and what doesn't belong into a phase.
use Rattle.std.specs.Prelude.{◌≡◌, ℕ, List, [], ◌∷◌, Option, Some, None, codes, refl}
use Rattle.std.proofs.Common.{ap, sym, inl, inr, arith, ◌∙◌}
use Rattle.mq_spec_node.specs.from_frame.SeenVariants as items
use Rattle.mq_spec_node.specs.from_history.{Actor, Call, Entry, History, Scenario, ScriptLine, ScriptPart}
use Rattle.mq_spec_node.specs.from_history.ActorVariants as actors
use Rattle.mq_spec_node.specs.from_history.CallVariants as calls
use Rattle.mq_spec_node.specs.from_history.StepVariants as steps
use Rattle.mq_spec_node.specs.from_history.ScriptLineVariants as lines
use Rattle.mq_spec_node.proofs.from_spec_manager.Script.{connection}
use Rattle.mq_spec_node.specs.Node.{Node}
use Rattle.mq_spec_node.specs.Happens.{event}
use Rattle.mq_spec_node.specs.Replays.{opening_node}
use Rattle.mq_spec_node.specs.Scripts.{script_appl}
use Rattle.mq_spec_node.proofs.Pair.{entry_of, runs, image}
use Rattle.mq_spec_network.specs.Given.{surroundings}
use Rattle.mq_spec_network.specs.Story.{Mem}
use Rattle.mq_spec_network.specs.Turns.{Network, does}
use Rattle.mq_spec_node.specs.Lines.{left_after}
use Rattle.mq_spec_network.specs.ScriptLines.{IsUntil}
use Rattle.mq_spec_network.specs.Tasks.{Task, Trying, tasks_of}
use Rattle.mq_spec_network.specs.Tasks.Task.{Phase, Script, Lines}
use Rattle.mq_spec_network.specs.Steps.{Goes, Served, InPhase, PhaseLine}
use Rattle.mq_spec_network.specs.Steps.Goes.{stays, moves, passes}
use Rattle.mq_spec_network.specs.Lawful.{network_begun}
use Rattle.mq_spec_network.proofs.Rounds.{one_served}

abbrev script_a : ScriptPart
script_a = record { label = codes "A"; manager = 0; lines = lines.Mqconn [] ∷ [] }

abbrev script_b : ScriptPart
script_b = record { label = codes "B"; manager = 0; lines = lines.Mqconn [] ∷ [] }

abbrev scenario : Scenario
scenario = record {
  moment = None;
  managers = record { name = codes "LONDON"; log_max = 268435456 } ∷ [];
  cables = [];
  sections = [];
  rules = [];
  scripts =
      script_a
      ∷ script_b
      ∷ record { label = codes "C"; manager = 0; lines = lines.Mqconn [] ∷ [] } ∷ [];
  monitors = [];
  steps = steps.Phase (0 ∷ 1 ∷ []) ∷ [];
}

abbrev london : List Entry → History
london es = record { number = 1; name = codes "LONDON"; opening = image [] []; length = 1; moment = 0; entries = es; marks = [] }

abbrev node0 : Node
node0 = opening_node (surroundings scenario 0) (london [])

abbrev connects : List ℕ → Call
connects label = calls.Mqconn [] (script_appl label)

abbrev entry : ℕ → Actor → Call → Node → Entry
entry stamp actor call n = entry_of stamp actor call runs items.Nothing (event stamp actor call runs items.Nothing n)

abbrev b_first : Entry
b_first = entry 1 (actors.Script 1) (connects (codes "B")) node0

abbrev node1 : Node
node1 = (event 1 (actors.Script 1) (connects (codes "B")) runs items.Nothing node0).next

abbrev a_then : Entry
a_then = entry 2 (actors.Script 0) (connects (codes "A")) node1

abbrev network : Network
network = network_begun scenario (london [] ∷ [])

abbrev network1 : Network
network1 = does 0 (b_first ∷ []) network

abbrev network2 : Network
network2 = does 0 (a_then ∷ []) network1

abbrev trying_a : Trying
trying_a = record { script = 0; part = script_a; moment = 0 }

abbrev trying_b : Trying
trying_b = record { script = 1; part = script_b; moment = 0 }

abbrev scripts : List Trying
scripts = trying_a ∷ trying_b ∷ []

abbrev behind : List Task
behind = Script 0 script_a (Some 0) None ∷ Script 1 script_b (Some 0) None ∷ []

begins_with : tasks_of network (steps.Phase (0 ∷ 1 ∷ [])) ≡ Phase scripts ∷ behind
begins_with = refl

b_goes_first : InPhase scripts (network.done 0) 0 b_first (actors.Script 1)
b_goes_first = (trying_b, inr (inl refl), (refl, (refl, refl, refl)))

a_goes_then : InPhase scripts (network1.done 0) 0 a_then (actors.Script 0)
a_goes_then = (trying_a, inl refl, (refl, (refl, refl, refl)))

none_due_then : Served network2
none_due_then = one_served network2 (λ m. refl) refl

abbrev IsLeft : Network → List Task → Type 0
IsLeft w ts = Goes network (tasks_of network (steps.Phase (0 ∷ 1 ∷ []))) w ts

between : IsLeft network2 (Phase scripts ∷ behind)
between = moves network1 (Phase scripts) behind 0 a_then (moves network (Phase scripts) behind 0 b_first stays b_goes_first) a_goes_then

-- each script is at its end
a_is_done : IsLeft network2 (Script 1 script_b (Some 0) None ∷ [])
a_is_done = passes
    network2
    (Lines 0 script_a (Some 0) [])
    []
    (Script 1 script_b (Some 0) None ∷ [])
    (passes network2 (Script 0 script_a (Some 0) None) (Lines 0 script_a (Some 0) [] ∷ []) (Script 1 script_b (Some 0) None ∷ []) (passes network2 (Phase scripts) [] behind between none_due_then refl) none_due_then refl)
    none_due_then
    refl

the_phase : IsLeft network2 []
the_phase = passes
    network2
    (Lines 1 script_b (Some 0) [])
    []
    []
    (passes network2 (Script 1 script_b (Some 0) None) (Lines 1 script_b (Some 0) [] ∷ []) [] a_is_done none_due_then refl)
    none_due_then
    refl

-- A channel end takes turns in a phase, and does nothing else; a script that the step doesn't name does no line; and no
-- clock advances before the scripts are finished.
abbrev turn : Entry
turn = entry 3 (actors.Receiver 0) calls.Turn node1

end_takes_turns : InPhase scripts (network2.done 0) 0 turn (actors.Receiver 0)
end_takes_turns = refl

not_a_turn : calls.Mqcmit (connection 1) ≡ calls.Turn → ⊥
not_a_turn e = absurd cc

no_commit_by_an_end : InPhase scripts (network2.done 0) 0 (entry 3 (actors.Receiver 0) (calls.Mqcmit (connection 1)) node1) (actors.Receiver 0) → ⊥
no_commit_by_an_end h = not_a_turn h

zero_not_two : ◌≡◌ {A = ℕ} 0 2 → ⊥
zero_not_two e = omega arith

one_not_two : ◌≡◌ {A = ℕ} 1 2 → ⊥
one_not_two e = omega arith

not_two : (t : Trying) → Mem t scripts → t.script ≡ 2 → ⊥
not_two t (inl e) s = zero_not_two (sym (ap (λ (x : Trying). x.script) e) ∙ s)
not_two t (inr (inl e)) s = one_not_two (sym (ap (λ (x : Trying). x.script) e) ∙ s)
not_two t (inr (inr none)) s = none

its_script : (ls : List ScriptLine) (t : Trying) → PhaseLine 2 t (network2.done 0) ls 0 (entry 3 (actors.Script 2) (connects (codes "C")) node1) → t.script ≡ 2
its_script [] t line = absurd line
its_script (l ∷ ls) t line = line.0

no_other_script : InPhase scripts (network2.done 0) 0 (entry 3 (actors.Script 2) (connects (codes "C")) node1) (actors.Script 2) → ⊥
no_other_script (t, mem, line) = not_two t mem (its_script (left_after 2 t.part (network2.done 0)) t line)

no_clock : InPhase scripts (network2.done 0) 0 turn actors.Clock → ⊥
no_clock h = h

-- A get that waits 500 milliseconds, tried first at moment 0 or at 200.
tried_now : IsUntil None 0 (Some 500) (Some 500)
tried_now = refl

tried_before : IsUntil (Some 0) 200 (Some 500) (Some 500)
tried_before = refl

abbrev or_zero : Option ℕ → ℕ
or_zero None = 0
or_zero (Some n) = n

not_later : ◌≡◌ {A = ℕ} 500 700 → ⊥
not_later e = omega arith

not_from_another_moment : IsUntil None 200 (Some 500) (Some 500) → ⊥
not_from_another_moment e = not_later (ap or_zero e)

not_from_the_callers_moment : IsUntil (Some 0) 200 (Some 500) (Some 700) → ⊥
not_from_the_callers_moment e = not_later (ap or_zero (sym e))
