-- Each kind of step, by the answer of the call that does it.
use Rattle.std.specs.Prelude.{◌≡◌, ◌<◌, ◌≤◌, ℕ, Bool, true, false, List, [], ◌∷◌, Option, Some, None, Result, Ok, Err, IfOk, OnOk, IsErrAnd, All, length, slice_get}
use Rattle.std.proofs.Common.{ap, subst, sym, ◌∙◌}
use Rattle.std.proofs.lemmas.List.Elements.{All-weaker}
use Rattle.std.proofs.lemmas.Option.{slice_get_within}
use Rattle.mq_base.specs.declared.want.NoMemory.{NoMemory}
use Rattle.mq_history.specs.Scenarios.{IsScenario}
use Rattle.mq_history.specs.declared.history.History.{History}
use Rattle.mq_history.specs.declared.scenario.ScriptPart.{ScriptPart}
use Rattle.mq_history.specs.declared.scenario.Scenario.{Scenario}
use Rattle.mq_history.specs.declared.scenario.Step.{Step}
use Rattle.mq_history.specs.declared.scenario.Step.TheVariants as kinds
use Rattle.mq_history.specs.declared.acts.Act.TheVariants as acts
use Rattle.mq_history.specs.declared.calls.Actor.TheVariants as actors
use Rattle.mq_history.specs.declared.calls.Call.TheVariants as calls
use Rattle.mq_history.specs.declared.calls.Entry.{Entry}
use Rattle.mq_spec_network.specs.Turns.{is_idle, is_up_at, node_at}
use Rattle.mq_spec_network.specs.Tasks.{Task, tasks_of}
use Rattle.mq_spec_network.specs.Tasks.Task.{Ask, Restart}
use Rattle.mq_spec_network.specs.Steps.{Is, is_cut, once_more}
use Rattle.mq_spec_network.specs.Lawful.{IsDone, ends_idle, handles_idle}
use Rattle.mq_spec_network.proofs.Going.{on}
use Rattle.mq_nodes.specs.declared.nodes.Stop.{Stop}
use Rattle.mq_nodes.specs.declared.nodes.Stop.TheVariants as stops
use Rattle.mq_nodes.specs.Course.{Course, Did, Ready}
use Rattle.mq_nodes.specs.Told.{Has, Onward, Part, Ran, Says}
use Rattle.mq_nodes.specs.Runs.{StepsTold, never_idle}
use Rattle.mq_nodes.proofs.LineLaws.{fits_too}
use Rattle.mq_nodes.proofs.Onward.{begin, moved, same_scenario, unframed}
use Rattle.mq_nodes.proofs.StepLaws.{are_done, never}
use Rattle.mq_nodes.proofs.TurnLaws.{Handling}
use Rattle.mq_steps.specs.declared.pumping.Pumped.{Pumped}
use Rattle.mq_steps.specs.Counts.{idle_or_spent, idle_unless, pumped_then}
use Rattle.mq_steps.proofs.PartLaws.{err_is, pumped_part}

-- a step that is never idle
pub told_never : (s k : Step) (r : Result (Unit {0}) Stop) (x : Result Bool Stop) (c d : Course) → s ≡ k → x ≡ never_idle r → Part (tasks_of c.net k) r c d → Part (tasks_of c.net s) x c d
told_never s k r x c d is answer h =
    subst (λ (y : Result Bool Stop). Part (tasks_of c.net s) y c d) (sym answer)
    (subst (λ (y : Step). Part (tasks_of c.net y) (never_idle r) c d) (sym is) (never (tasks_of c.net k) r c d h))

never_is : (b : Bool) (r : Result (Unit {0}) Stop) → false ≡ b → IfOk (never_idle r) (λ (idle : Bool). idle ≡ b)
never_is b (Ok x) h = h
never_is b (Err stop) h = tt

pub idle_never : (s k : Step) (r : Result (Unit {0}) Stop) (x : Result Bool Stop) (d : Course) → s ≡ k → x ≡ never_idle r → false ≡ ends_idle d.net k → IfOk x (λ (idle : Bool). idle ≡ ends_idle d.net s)
idle_never s k r x d is answer h =
    subst (λ (y : Result Bool Stop). IfOk y (λ (idle : Bool). idle ≡ ends_idle d.net s)) (sym answer)
    (subst (λ (y : Step). IfOk (never_idle r) (λ (idle : Bool). idle ≡ ends_idle d.net y)) (sym is) (never_is (ends_idle d.net k) r h))

-- a PUMP
pub told_pump : (s : Step) (turns : ℕ) (r : Result Pumped NoMemory) (x : Result Bool Stop) (c d : Course) → s ≡ kinds.Pump turns → x ≡ idle_or_spent r → Part (tasks_of c.net (kinds.Pump turns)) (pumped_then r) c d → Part (tasks_of c.net s) x c d
told_pump s turns r x c d is answer h =
    subst (λ (y : Result Bool Stop). Part (tasks_of c.net s) y c d) (sym answer)
    (subst (λ (y : Step). Part (tasks_of c.net y) (idle_or_spent r) c d) (sym is) (pumped_part (tasks_of c.net (kinds.Pump turns)) r c d h))

pub idle_pump : (s : Step) (turns : ℕ) (r : Result Pumped NoMemory) (x : Result Bool Stop) (d : Course) → s ≡ kinds.Pump turns → x ≡ idle_or_spent r → IfOk r (λ (p : Pumped). p.idle ≡ is_idle d.net) → IfOk x (λ (idle : Bool). idle ≡ ends_idle d.net s)
idle_pump s turns r x d is answer h =
    subst (λ (y : Result Bool Stop). IfOk y (λ (idle : Bool). idle ≡ ends_idle d.net s)) (sym answer)
    (subst (λ (y : Step). IfOk (idle_or_spent r) (λ (idle : Bool). idle ≡ ends_idle d.net y)) (sym is) (so r h))
  where
    by_spent : (idle : Bool) (spent : Option ℕ) → idle ≡ is_idle d.net → IfOk (idle_unless idle spent) (λ (b : Bool). b ≡ is_idle d.net)
    by_spent idle None e = e
    by_spent idle (Some m) e = tt

    so : (y : Result Pumped NoMemory) → IfOk y (λ (p : Pumped). p.idle ≡ is_idle d.net) → IfOk (idle_or_spent y) (λ (idle : Bool). idle ≡ is_idle d.net)
    so (Ok p) e = by_spent p.idle p.spent e
    so (Err n) e = tt

-- a HANDLE
pub told_as : (s k : Step) (x : Result Bool Stop) (c d : Course) → s ≡ k → Part (tasks_of c.net k) x c d → Part (tasks_of c.net s) x c d
told_as s k x c d is h = subst (λ (y : Step). Part (tasks_of c.net y) x c d) (sym is) h

pub idle_as : (s k : Step) (x : Result Bool Stop) (d : Course) → s ≡ k → IfOk x (λ (idle : Bool). idle ≡ ends_idle d.net k) → IfOk x (λ (idle : Bool). idle ≡ ends_idle d.net s)
idle_as s k x d is h = subst (λ (y : Step). IfOk x (λ (idle : Bool). idle ≡ ends_idle d.net y)) (sym is) h

-- the manager of each script
pub script_managers : (s : Scenario) → IsScenario s → All (λ (p : ScriptPart). p.manager < length s.managers) s.scripts
script_managers s h = All-weaker (λ (p : ScriptPart). (p.manager < length s.managers) × (length p.lines ≤ 25000)) (λ (p : ScriptPart). p.manager < length s.managers) (λ (p : ScriptPart) (x : (p.manager < length s.managers) × (length p.lines ≤ 25000)). x.0) s.scripts h.scripts

-- The loop of steps breaks off.
pub steps_broke : (r : Result (Unit {0}) Stop) (stop : Stop) (c e : Course) → IsErrAnd r (λ (y : Stop). y ≡ stop) → Ran {T = Unit {0}} (Err stop) c e → StepsTold r c e
steps_broke r stop c e h x = subst (λ (y : Result (Unit {0}) Stop). StepsTold y c e) (sym (err_is r stop h)) x

pub idle_handle : (s : Step) (k n : ℕ) (ts : List Task) (x : Result Bool Stop) (sc : Scenario) (c d : Course) → s ≡ kinds.Handle k n → c.net.scenario ≡ sc → Part {T = Bool} ts x c d → IfOk x (λ (idle : Bool). idle ≡ handles_idle k (slice_get sc.rules k) d.net)
    → IfOk x (λ (idle : Bool). idle ≡ ends_idle d.net s)
idle_handle s k n ts x sc c d is same part h =
    idle_as s (kinds.Handle k n) x d is
    (subst (λ (y : Scenario). IfOk x (λ (idle : Bool). idle ≡ handles_idle k (slice_get y.rules k) d.net)) (sym (same_scenario part.goes ∙ same)) h)

-- One event that is asked for, whatever it answers.
pub restarted_once : (m : ℕ) (cut : Bool) (c d : Course) → Part {T = Bool} (Ask m actors.Operator (calls.Act acts.Restart) ∷ []) (Ok cut) c d → Part {T = Unit {0}} (Ask m actors.Operator (calls.Act acts.Restart) ∷ []) (Ok tt) c d
restarted_once m cut c d p = record { left = p.left; goes = p.goes; marks = p.marks; ends = p.ends }

-- A last restart that a cut stopped, and once more.
abbrev AnswersCut : ℕ → Bool → ℕ → Entry → Type 0
AnswersCut m cut n e = Is m actors.Operator (calls.Act acts.Restart) n e × (is_cut e.reply ≡ cut)

cut_off : (m : ℕ) (c d : Course) → Ready c.net → is_up_at (node_at c.net m) ≡ false → Did (AnswersCut m true) c d → Ready d.net → Onward (Restart m ∷ []) (Ask m actors.Operator (calls.Act acts.Restart) ∷ []) c d
cut_off m c d ready down x ready_then =
    subst (λ (b : Bool). Onward (Restart m ∷ []) (once_more m b) c d) x.fits.1
    (unframed (Restart m ∷ []) (once_more m (is_cut x.entry.reply)) c d
    (moved (Restart m ∷ []) (Restart m) [] c c d (begin (Restart m ∷ []) c ready) (fits_too c d (λ (n : ℕ) (e : Entry) (h : AnswersCut m true n e). (down, h.0)) x) ready_then))

joined : {T : Type 0} (all ts : List Task) (r : Result T Stop) (c d e : Course) → Onward all ts c d → Part ts r d e → Part all r c e
joined all ts (Ok x) c d e h p = record { left = p.left; goes = on h.goes p.goes; marks = p.marks ∙ h.marks; ends = (p.ends.0, p.ends.1, λ q. p.ends.2 (h.rests q)) }
joined all ts (Err stops.NoMemory) c d e h p = record { left = p.left; goes = on h.goes p.goes; marks = p.marks ∙ h.marks; ends = tt }
joined all ts (Err (stops.Spent m)) c d e h p = record { left = p.left; goes = on h.goes p.goes; marks = p.marks ∙ h.marks; ends = p.ends }

pub second_part : (m : ℕ) (cut : Bool) (r : Result (Unit {0}) Stop) (c d e : Course) → Ready c.net → is_up_at (node_at c.net m) ≡ false → cut ≡ true → Says (Is m actors.Operator (calls.Act acts.Restart)) (λ (x : Bool) (f : Entry). is_cut f.reply ≡ x) (Ok cut) c d
    → Part (Ask m actors.Operator (calls.Act acts.Restart) ∷ []) r d e → Part (Restart m ∷ []) r c e
second_part m cut r c d e ready down is (x, ready_then) part =
    joined (Restart m ∷ []) (Ask m actors.Operator (calls.Act acts.Restart) ∷ []) r c d e
    (cut_off m c d ready down (subst (λ (b : Bool). Did (AnswersCut m b) c d) is x) ready_then) part

pub manager_there : (i end : ℕ) (from left : List Task) (c d : Course) → i < end → end ≡ length c.net.scenario.managers → Onward from left c d → i < length d.net.scenario.managers
manager_there i end from left c d lt upto h = subst (λ (n : ℕ). i < n) (upto ∙ sym (ap (λ (s : Scenario). length s.managers) (same_scenario h.goes))) lt

-- The whole run.
pub done_all : (s : Scenario) (r : Result (Unit {0}) Stop) (c d : Course) → c.net.scenario ≡ s → Ran r c d → OnOk r ((hs : List History) → Has s hs c d → IsDone s hs)
done_all s (Ok x) c d same h = λ hs has. are_done s hs x c d same h has
done_all s (Err stop) c d same h = tt

pub handling_there : (k turns left : ℕ) (c d : Course) → Handling k turns left c d → k < length d.net.scenario.rules
handling_there k turns left c d h = slice_get_within d.net.scenario.rules k h.part (ap (λ (s : Scenario). slice_get s.rules k) (same_scenario h.on.goes) ∙ h.known)
