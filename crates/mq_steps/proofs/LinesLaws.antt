-- Lines of a script in a loop.
use Rattle.std.specs.Prelude.{◌≡◌, ◌<◌, ◌≤◌, ◌+◌, ◌-◌, ℕ, zero, suc, Bool, true, false, List, [], ◌∷◌, Option, Some, None, Result, Ok, Err, IsErrAnd, length, take, refl}
use Rattle.std.proofs.Common.{ap, subst, sym, arith, ◌∙◌}
use Rattle.std.proofs.lemmas.List.{length-drop, take_all}
use Rattle.mq_history.specs.declared.scenario.ScriptPart.{ScriptPart}
use Rattle.mq_history.specs.declared.scripts.ScriptLine.{ScriptLine}
use Rattle.mq_spec_network.specs.from_spec_node.Node.{Node}
use Rattle.mq_spec_network.specs.from_spec_node.Lines.{lines_by}
use Rattle.mq_spec_network.specs.Turns.{Network, node_at}
use Rattle.mq_spec_network.specs.ScriptLines.{at_most, lines_left}
use Rattle.mq_spec_network.specs.Tasks.{Task, run_script}
use Rattle.mq_spec_network.specs.Tasks.Task.{Lines, Script}
use Rattle.mq_spec_network.specs.Steps.{Goes}
use Rattle.mq_spec_network.specs.Steps.Goes.{stays as stays_there, passes}
use Rattle.mq_spec_network.proofs.Going.{on}
use Rattle.mq_nodes.specs.declared.nodes.Stop.{Stop}
use Rattle.mq_nodes.specs.declared.nodes.Stop.TheVariants as stops
use Rattle.mq_nodes.specs.Course.{Course, Ready}
use Rattle.mq_nodes.specs.declared.nodes.Advanced.TheVariants as advances
use Rattle.mq_nodes.specs.Told.{Alone, LineAt, LineRan, LineTold, MayTry, OneLine, Onward, Part, upto}
use Rattle.mq_nodes.proofs.Onward.{after, alone, begin, passed, same_scenario, stopped, whole}
use Rattle.mq_steps.specs.Lines.{AloneIf, FinishRan, FinishTold, LinesTold, number_or}

-- One script goes on alone.
pub alone_begins : (k : ℕ) (c : Course) → c.waits k ≡ None → Alone k c c
alone_begins k c h = record { waits = λ j other. refl; lines = λ j m other. refl; rests = h }

pub alone_then : (k : ℕ) (c d e : Course) → Alone k c d → Alone k d e → Alone k c e
alone_then k c d e a b = record { waits = λ j other. b.waits j other ∙ a.waits j other; lines = λ j m other. b.lines j m other ∙ a.lines j m other; rests = b.rests }

pub none_alone : {T : Type 0} (k : ℕ) (r : Result T Stop) (stop : Stop) (c d : Course) → IsErrAnd r (λ (y : Stop). y ≡ stop) → AloneIf k r c d
none_alone k (Ok x) stop c d h = absurd h
none_alone k (Err y) stop c d h = tt

-- So many lines of it are done.
abbrev pub Lining : ℕ → ScriptPart → ℕ → ℕ → Course → Course → Type 0
Lining k p most i c d = Onward (upto k p None most c) (upto k p None (most - i) d) c d × Alone k c d

pub lines_begin : (k : ℕ) (p : ScriptPart) (most : ℕ) (c : Course) → Ready c.net → c.waits k ≡ None → Lining k p most 0 c c
lines_begin k p most c ready rests = (subst (λ (n : ℕ). Onward (upto k p None most c) (upto k p None n c) c c) (all most) (begin (upto k p None most c) c ready), alone_begins k c rests)
  where
    all : (n : ℕ) → n ≡ n - 0
    all n = omega arith

-- some are left
less_one : (n i : ℕ) → i < n → n - i ≡ suc (n - (i + 1))
less_one n i lt = omega arith

at_next : (k : ℕ) (p : ScriptPart) (most i : ℕ) (c d : Course) → i < most → Onward (upto k p None most c) (upto k p None (most - i) d) c d → Onward (upto k p None most c) (upto k p None (suc (most - (i + 1))) d) c d
at_next k p most i c d lt h = subst (λ (n : ℕ). Onward (upto k p None most c) (upto k p None n d) c d) (less_one most i lt) h

pub one_more : (k : ℕ) (p : ScriptPart) (most i : ℕ) (c d e : Course) (was : Bool) → i < most → was ≡ true → Lining k p most i c d → LineRan k p (Ok was) d e → Lining k p most (i + 1) c e
one_more k p most i c d e was lt is h one =
    let now : OneLine k p None (Ok true) d e = subst (λ (b : Bool). OneLine k p None (Ok b) d e) is (one None h.1.rests) in (
      after (upto k p None most c) (upto k p None (suc (most - (i + 1))) d) (upto k p None (most - (i + 1)) e) c d e (at_next k p most i c d lt h.0) (now.0 (most - (i + 1))),
      alone_then k c d e h.1 now.1,
    )

pub lines_break : (k : ℕ) (p : ScriptPart) (most i : ℕ) (c d e : Course) (stop : Stop) → i < most → Lining k p most i c d → LineRan k p (Err stop) d e → Part {T = Unit {0}} (upto k p None most c) (Err stop) c e
lines_break k p most i c d e stop lt h one =
    stopped (upto k p None most c) (upto k p None (suc (most - (i + 1))) d) [] c d e stop (alone (upto k p None most c) (upto k p None (suc (most - (i + 1))) d) c d (at_next k p most i c d lt h.0)) (one None h.1.rests (most - (i + 1)))

-- none is left
of_none : (n : ℕ) → take {A = ScriptLine} n [] ≡ []
of_none zero = refl
of_none (suc n) = refl

at_end : (k : ℕ) (p : ScriptPart) (tried : Option ℕ) (all : List Task) (ls : List ScriptLine) (c d : Course) → ls ≡ [] → Onward all (Lines k p tried ls ∷ []) c d → Part {T = Unit {0}} all (Ok tt) c d
at_end k p tried all ls c d none h = whole all c d tt (passed all (Lines k p tried []) [] [] c d (subst (λ (xs : List ScriptLine). Onward all (Lines k p tried xs ∷ []) c d) none h) refl)

pub no_line : (k : ℕ) (p : ScriptPart) (most i : ℕ) (c d e : Course) (was : Bool) → was ≡ false → Lining k p most i c d → LineRan k p (Ok was) d e → LinesTold k (upto k p None most c) (Ok tt) c e
no_line k p most i c d e was is h one =
    let now : OneLine k p None (Ok false) d e = subst (λ (b : Bool). OneLine k p None (Ok b) d e) is (one None h.1.rests) in
    subst (λ (y : Course). LinesTold k (upto k p None most c) (Ok tt) c y) (sym now.0)
    (at_end k p None (upto k p None most c) (take (most - i) (lines_left d.net k p)) c d (ap (take (most - i)) now.1 ∙ of_none (most - i)) h.0, h.1)

pub lines_over : (k : ℕ) (p : ScriptPart) (most i : ℕ) (c d : Course) → most ≤ i → Lining k p most i c d → LinesTold k (upto k p None most c) (Ok tt) c d
lines_over k p most i c d le h = (at_end k p None (upto k p None most c) (take (most - i) (lines_left d.net k p)) c d (ap (λ (n : ℕ). take n (lines_left d.net k p)) (no_more most i le)) h.0, h.1)
  where
    no_more : (n i : ℕ) → n ≤ i → n - i ≡ 0
    no_more n i le = omega arith

-- A RUN does so many, or all that are left.
as_many : (k : ℕ) (p : ScriptPart) (most : Option ℕ) (c : Course) → take (number_or most (length p.lines)) (lines_left c.net k p) ≡ at_most most (lines_left c.net k p)
as_many k p (Some n) c = refl
as_many k p None c = take_all (length p.lines) (lines_left c.net k p) (few (length p.lines) (length (lines_by k (c.net.done p.manager))) (length (lines_left c.net k p)) (length-drop (length (lines_by k (c.net.done p.manager))) p.lines))
  where
    few : (all done left : ℕ) → left ≡ all - done → left ≤ all
    few all done left e = omega arith

script_gives : (k : ℕ) (p : ScriptPart) (tried most : Option ℕ) (n : ℕ) (c : Course) → Ready c.net → take n (lines_left c.net k p) ≡ at_most most (lines_left c.net k p) → Goes c.net (Script k p tried most ∷ []) c.net (upto k p tried n c)
script_gives k p tried most n c ready is =
    subst (λ (ls : List ScriptLine). Goes c.net (Script k p tried most ∷ []) c.net (Lines k p tried ls ∷ [])) (sym is)
    (passes c.net (Script k p tried most) (Lines k p tried (at_most most (lines_left c.net k p)) ∷ []) [] stays_there ready.served refl)

pub ran_lines : (k : ℕ) (p : ScriptPart) (most : Option ℕ) (n : ℕ) (r : Result (Unit {0}) Stop) (c d : Course) → Ready c.net → n ≡ number_or most (length p.lines) → Part (upto k p None n c) r c d → Part (Script k p None most ∷ []) r c d
ran_lines k p most n r c d ready is h = record { left = h.left; goes = on (script_gives k p None most n c ready (ap (λ (m : ℕ). take m (lines_left c.net k p)) is ∙ as_many k p most c)) h.goes; marks = h.marks; ends = h.ends }

pub ran_script : (k : ℕ) (p : ScriptPart) (x : Option ScriptPart) (most : Option ℕ) (n : ℕ) (r : Result (Unit {0}) Stop) (c d : Course) → Ready c.net → x ≡ Some p → n ≡ number_or most (length p.lines) → Part (upto k p None n c) r c d
    → Part (run_script k most x) r c d
ran_script k p x most n r c d ready there is h = subst (λ (y : Option ScriptPart). Part (run_script k most y) r c d) (sym there) (ran_lines k p most n r c d ready is h)

-- All that is left of a script, line by line: its first line, and the others behind it.
as_all : (k : ℕ) (p : ScriptPart) (c : Course) → take (suc (length p.lines)) (lines_left c.net k p) ≡ lines_left c.net k p
as_all k p c = take_all (suc (length p.lines)) (lines_left c.net k p) (few (length p.lines) (length (lines_by k (c.net.done p.manager))) (length (lines_left c.net k p)) (length-drop (length (lines_by k (c.net.done p.manager))) p.lines))
  where
    few : (all done left : ℕ) → left ≡ all - done → left ≤ suc all
    few all done left e = omega arith

finish_gives : (k : ℕ) (p : ScriptPart) (tried : Option ℕ) (c : Course) → Ready c.net → Goes c.net (Script k p tried None ∷ []) c.net (upto k p tried (suc (length p.lines)) c)
finish_gives k p tried c ready = script_gives k p tried None (suc (length p.lines)) c ready (as_all k p c)

pub first_done : (k : ℕ) (p : ScriptPart) (tried : Option ℕ) (r : Result (Unit {0}) Stop) (c d e : Course) → Ready c.net → OneLine k p tried (Ok true) c d → LinesTold k (upto k p None (length p.lines) d) r d e → LinesTold k (Script k p tried None ∷ []) r c e
first_done k p tried (Ok x) c d e ready one h =
    let o : Onward (upto k p tried (suc (length p.lines)) c) (upto k p None (length p.lines) d) c d = one.0 (length p.lines) in (
      record {
        left = h.0.left;
        goes = on (finish_gives k p tried c ready) (on o.goes h.0.goes);
        marks = h.0.marks ∙ o.marks;
        ends = (h.0.ends.0, h.0.ends.1, λ q. h.0.ends.2 (o.rests q));
      },
      alone_then k c d e one.1 h.1,
    )
first_done k p tried (Err stops.NoMemory) c d e ready one h =
    let o : Onward (upto k p tried (suc (length p.lines)) c) (upto k p None (length p.lines) d) c d = one.0 (length p.lines) in
    (record { left = h.0.left; goes = on (finish_gives k p tried c ready) (on o.goes h.0.goes); marks = h.0.marks ∙ o.marks; ends = tt }, tt)
first_done k p tried (Err (stops.Spent m)) c d e ready one h =
    let o : Onward (upto k p tried (suc (length p.lines)) c) (upto k p None (length p.lines) d) c d = one.0 (length p.lines) in
    (record { left = h.0.left; goes = on (finish_gives k p tried c ready) (on o.goes h.0.goes); marks = h.0.marks ∙ o.marks; ends = h.0.ends }, tt)

pub first_none : (k : ℕ) (p : ScriptPart) (tried : Option ℕ) (c d : Course) → Ready c.net → OneLine k p tried (Ok false) c d → LinesTold k (Script k p tried None ∷ []) (Ok tt) c d
first_none k p tried c d ready one =
    subst (λ (y : Course). LinesTold k (Script k p tried None ∷ []) (Ok tt) c y) (sym one.0) (
      at_end k p tried (Script k p tried None ∷ []) (take (suc (length p.lines)) (lines_left c.net k p)) c c (as_all k p c ∙ one.1)
          (record { goes = finish_gives k p tried c ready; ready = ready; marks = refl; rests = λ q. q }),
      alone_begins k c one.2,
    )

pub first_breaks : (k : ℕ) (p : ScriptPart) (tried : Option ℕ) (c d : Course) (stop : Stop) → Ready c.net → OneLine k p tried (Err stop) c d → Part {T = Unit {0}} (Script k p tried None ∷ []) (Err stop) c d
first_breaks k p tried c d stops.NoMemory ready one =
    let h : Part {T = Bool} (upto k p tried (suc (length p.lines)) c) (Err stops.NoMemory) c d = one (length p.lines) in
    record { left = h.left; goes = on (finish_gives k p tried c ready) h.goes; marks = h.marks; ends = tt }
first_breaks k p tried c d (stops.Spent m) ready one =
    let h : Part {T = Bool} (upto k p tried (suc (length p.lines)) c) (Err (stops.Spent m)) c d = one (length p.lines) in
    record { left = h.left; goes = on (finish_gives k p tried c ready) h.goes; marks = h.marks; ends = h.ends }

-- As the goals have them.
pub finish_on : (k : ℕ) (p : ScriptPart) (o : Option ScriptPart) (n : ℕ) (was : Bool) (r : Result (Unit {0}) Stop) (c d e : Course) → Ready c.net → o ≡ Some p → n ≡ length p.lines → was ≡ true → LineRan k p (Ok was) c d → LinesTold k (upto k p None n d) r d e → FinishRan k o r c e
finish_on k p o n was r c d e ready there long is one h tried q =
    subst (λ (x : Option ScriptPart). FinishTold k tried x r c e) (sym there)
    (first_done k p tried r c d e ready (subst (λ (b : Bool). OneLine k p tried (Ok b) c d) is (one tried (q p there))) (subst (λ (m : ℕ). LinesTold k (upto k p None m d) r d e) long h))

pub finished_none : (k : ℕ) (p : ScriptPart) (o : Option ScriptPart) (was : Bool) (c d : Course) → Ready c.net → o ≡ Some p → was ≡ false → LineRan k p (Ok was) c d → FinishRan k o (Ok tt) c d
finished_none k p o was c d ready there is one tried q =
    subst (λ (x : Option ScriptPart). FinishTold k tried x (Ok tt) c d) (sym there)
    (first_none k p tried c d ready (subst (λ (b : Bool). OneLine k p tried (Ok b) c d) is (one tried (q p there))))

pub finish_breaks : (k : ℕ) (p : ScriptPart) (o : Option ScriptPart) (r : Result (Unit {0}) Stop) (stop : Stop) (c d : Course) → IsErrAnd r (λ (y : Stop). y ≡ stop) → Ready c.net → o ≡ Some p → LineRan k p (Err stop) c d → FinishRan k o r c d
finish_breaks k p o (Ok x) stop c d err ready there one tried q = absurd err
finish_breaks k p o (Err y) stop c d err ready there one tried q =
    subst (λ (x : Option ScriptPart). FinishTold k tried x (Err y) c d) (sym there)
    (subst (λ (z : Stop). Part {T = Unit {0}} (Script k p tried None ∷ []) (Err z) c d) (sym err) (first_breaks k p tried c d stop ready (one tried (q p there))), tt)

-- no line is left, where the scenario has no such script
pub finish_nothing : (k : ℕ) (o : Option ScriptPart) (c : Course) → o ≡ None → FinishRan k o (Ok tt) c c
finish_nothing k o c none tried q = subst (λ (x : Option ScriptPart). FinishTold k tried x (Ok tt) c c) (sym none) tt

-- behind its first line
after_first : (k : ℕ) (p : ScriptPart) (was : Bool) (c d : Course) → was ≡ true → MayTry k p c → LineRan k p (Ok was) c d → (tried : Option ℕ) × OneLine k p tried (Ok true) c d
after_first k p was c d is may one = (may.0, subst (λ (b : Bool). OneLine k p may.0 (Ok b) c d) is (one may.0 may.1))

pub first_ready : (k : ℕ) (p : ScriptPart) (was : Bool) (c d : Course) → was ≡ true → MayTry k p c → LineRan k p (Ok was) c d → Ready d.net
first_ready k p was c d is may one = ((after_first k p was c d is may one).1.0 0).ready

pub first_rests : (k : ℕ) (p : ScriptPart) (was : Bool) (c d : Course) → was ≡ true → MayTry k p c → LineRan k p (Ok was) c d → d.waits k ≡ None
first_rests k p was c d is may one = (after_first k p was c d is may one).1.1.rests

pub first_same : (k : ℕ) (p : ScriptPart) (was : Bool) (c d : Course) → was ≡ true → MayTry k p c → LineRan k p (Ok was) c d → d.net.scenario ≡ c.net.scenario
first_same k p was c d is may one = same_scenario ((after_first k p was c d is may one).1.0 0).goes

-- Where a get waits, nothing was done.
tried_net : (k : ℕ) (p : ScriptPart) (u : ℕ) (c d : Course) → LineTold k p (Ok (advances.Waiting u)) c d → d.net ≡ c.net
tried_net k p u c d t = at_node (node_at c.net p.manager) t
  where
    at_node : (x : Option Node) → LineAt k p x (Ok (advances.Waiting u)) c d → d.net ≡ c.net
    at_node None h = absurd h
    at_node (Some n) h = ap (λ (y : Course). y.net) h.1

pub waited_scenario : {T : Type 0} (k : ℕ) (p : ScriptPart) (u : ℕ) (ts : List Task) (r : Result T Stop) (c d e : Course) → LineTold k p (Ok (advances.Waiting u)) c d → Part {T = T} ts r d e → e.net.scenario ≡ c.net.scenario
waited_scenario k p u ts r c d e t h = same_scenario h.goes ∙ ap (λ (w : Network). w.scenario) (tried_net k p u c d t)
