-- A monitor's turns in a loop.
use Rattle.std.specs.Prelude.{◌≡◌, ◌<◌, ◌≤◌, ◌+◌, ◌-◌, ℕ, suc, Bool, true, false, List, [], ◌∷◌, Some, None, Option, Ok, Err, length, slice_get, refl}
use Rattle.std.proofs.Common.{ap, subst, sym, arith, ◌∙◌}
use Rattle.std.proofs.lemmas.Option.{slice_get_within}
use Rattle.mq_history.specs.declared.scenario.MonitorLine.{MonitorLine}
use Rattle.mq_history.specs.declared.scenario.Scenario.{Scenario}
use Rattle.mq_spec_network.specs.Tasks.{Task, run_script, serve_by}
use Rattle.mq_spec_network.specs.Tasks.Task.{Serve}
use Rattle.mq_nodes.specs.declared.nodes.Stop.{Stop}
use Rattle.mq_nodes.specs.declared.nodes.Stop.TheVariants as stops
use Rattle.mq_nodes.specs.declared.nodes.Monitored.TheVariants as monitors
use Rattle.mq_nodes.specs.Course.{Course, Ready, Rests}
use Rattle.mq_nodes.specs.Told.{Onward, Part, TurnTold}
use Rattle.mq_nodes.proofs.Asking.{same_value}
use Rattle.mq_nodes.proofs.Onward.{after, alone, passed, same_scenario, stopped, whole}
use Rattle.mq_nodes.proofs.TurnLaws.{Serving, began, got, monitor_breaks, ran, run_breaks, served_all, serving_begins}
use Rattle.mq_steps.specs.Served.{ServedBy, ServedTold}

no_less : (n : ℕ) → 0 < suc n
no_less n = omega arith

one_off : (n : ℕ) → suc n - (0 + 1) ≡ n
one_off n = omega arith

all_of : (n : ℕ) → suc n - 0 ≡ suc n
all_of n = omega arith

starts : (k n : ℕ) (c : Course) → Ready c.net → k < length c.net.scenario.monitors → Serving k (suc n) (suc n - 0) c c
starts k n c ready lt = serving_begins k (suc n) c ready lt

-- one turn is taken
one_on : (k n : ℕ) (l : MonitorLine) (c d : Course) → slice_get c.net.scenario.monitors k ≡ Some l → Serving k (suc n) (suc n - (0 + 1)) c d → Onward (Serve k l (suc n) ∷ []) (Serve k l n ∷ []) c d
one_on k n l c d known h =
    subst (λ (x : MonitorLine). Onward (Serve k x (suc n) ∷ []) (Serve k x n ∷ []) c d) (same_value h.line l (sym h.known ∙ known))
    (subst (λ (m : ℕ). Onward (Serve k h.line (suc n) ∷ []) (Serve k h.line m ∷ []) c d) (one_off n) h.on)

as_part : (k n : ℕ) (l : MonitorLine) (c d : Course) (stop : Stop) → slice_get c.net.scenario.monitors k ≡ Some l → Part {T = Unit {0}} (serve_by k (suc n) (slice_get c.net.scenario.monitors k)) (Err stop) c d → Part {T = Bool} (Serve k l (suc n) ∷ []) (Err stop) c d
as_part k n l c d stop known h = too stop (subst (λ (x : Option MonitorLine). Part {T = Unit {0}} (serve_by k (suc n) x) (Err stop) c d) known h)
  where
    too : (s : Stop) → Part {T = Unit {0}} (Serve k l (suc n) ∷ []) (Err s) c d → Part {T = Bool} (Serve k l (suc n) ∷ []) (Err s) c d
    too stops.NoMemory p = record { left = p.left; goes = p.goes; marks = p.marks; ends = p.ends }
    too (stops.Spent m) p = record { left = p.left; goes = p.goes; marks = p.marks; ends = p.ends }

pub got_one : (k : ℕ) (c d : Course) → Ready c.net → k < length c.net.scenario.monitors → TurnTold k (Ok monitors.Got) c d → ServedTold k (Ok true) c d
got_one k c d ready lt told = λ l known n. one_on k n l c d known (got k (suc n) 0 c c d (no_less n) (starts k n c ready lt) told)

pub got_none : (k : ℕ) (c d : Course) → TurnTold k (Ok monitors.Idle) c d → ServedTold k (Ok false) c d
got_none k c d told = λ l known. told l known

pub turn_breaks : (k : ℕ) (c d : Course) (stop : Stop) → Ready c.net → k < length c.net.scenario.monitors → TurnTold k (Err stop) c d → ServedTold k (Err stop) c d
turn_breaks k c d stop ready lt told = λ l known n. as_part k n l c d stop known (monitor_breaks k (suc n) 0 c c d stop (no_less n) (starts k n c ready lt) told)

-- a script begins, and runs to its end
pub ran_one : (k script : ℕ) (c d e : Course) (done : Unit {0}) → Ready c.net → k < length c.net.scenario.monitors → TurnTold k (Ok (monitors.Started script)) c d → Part (run_script script None (slice_get c.net.scenario.scripts script)) (Ok done) d e
    → ServedTold k (Ok true) c e
ran_one k script c d e done ready lt told part = λ l known n. one_on k n l c e known (ran k (suc n) 0 script c d e done (began k (suc n) 0 script c c d (no_less n) (starts k n c ready lt) told) part)

pub script_breaks : (k script : ℕ) (c d e : Course) (stop : Stop) → Ready c.net → k < length c.net.scenario.monitors → TurnTold k (Ok (monitors.Started script)) c d → Part {T = Unit {0}} (run_script script None (slice_get c.net.scenario.scripts script)) (Err stop) d e
    → ServedTold k (Err stop) c e
script_breaks k script c d e stop ready lt told part = λ l known n. as_part k n l c e stop known (run_breaks k (suc n) 0 script c d e stop (began k (suc n) 0 script c c d (no_less n) (starts k n c ready lt) told) part)

-- behind a turn that began a script another event may come
pub began_ready : (k script : ℕ) (c d : Course) → Ready c.net → k < length c.net.scenario.monitors → TurnTold k (Ok (monitors.Started script)) c d → Ready d.net × (d.net.scenario ≡ c.net.scenario)
began_ready k script c d ready lt told =
    let b = began k 1 0 script c c d (no_less 0) (starts k 0 c ready lt) told in
    (b.on.ready, same_scenario b.on.goes)

pub began_rests : (k script : ℕ) (c d : Course) → Ready c.net → k < length c.net.scenario.monitors → Rests c → TurnTold k (Ok (monitors.Started script)) c d → Rests d
began_rests k script c d ready lt rests told = (began k 1 0 script c c d (no_less 0) (starts k 0 c ready lt) told).on.rests rests

-- The loop.
less_one : (n i : ℕ) → i < n → n - i ≡ suc (n - (i + 1))
less_one n i lt = omega arith

at_next : (k turns i : ℕ) (c d : Course) → i < turns → (h : Serving k turns (turns - i) c d) → Onward (Serve k h.line turns ∷ []) (Serve k h.line (suc (turns - (i + 1))) ∷ []) c d
at_next k turns i c d lt h = subst (λ (n : ℕ). Onward (Serve k h.line turns ∷ []) (Serve k h.line n ∷ []) c d) (less_one turns i lt) h.on

now_known : (k turns left : ℕ) (c d : Course) (h : Serving k turns left c d) → slice_get d.net.scenario.monitors k ≡ Some h.line
now_known k turns left c d h = ap (λ (x : Scenario). slice_get x.monitors k) (same_scenario h.on.goes) ∙ h.known

serve_is : (k turns : ℕ) (c : Course) (l : MonitorLine) → slice_get c.net.scenario.monitors k ≡ Some l → Serve k l turns ∷ [] ≡ serve_by k turns (slice_get c.net.scenario.monitors k)
serve_is k turns c l known = sym (ap (serve_by k turns) known)

pub served_on : (k turns i : ℕ) (c d e : Course) (some : Bool) → i < turns → some ≡ true → Serving k turns (turns - i) c d → ServedTold k (Ok some) d e → Serving k turns (turns - (i + 1)) c e
served_on k turns i c d e some lt is h told = record {
  line = h.line;
  known = h.known;
  on = after (Serve k h.line turns ∷ []) (Serve k h.line (suc (turns - (i + 1))) ∷ []) (Serve k h.line (turns - (i + 1)) ∷ []) c d e (at_next k turns i c d lt h)
      (subst (λ (b : Bool). ServedBy k h.line (Ok b) d e) is (told h.line (now_known k turns (turns - i) c d h)) (turns - (i + 1)));
}

pub served_none : (k turns i : ℕ) (c d e : Course) (some : Bool) → i < turns → some ≡ false → Serving k turns (turns - i) c d → ServedTold k (Ok some) d e → Part {T = Unit {0}} (serve_by k turns (slice_get c.net.scenario.monitors k)) (Ok tt) c e
served_none k turns i c d e some lt is h told =
    let (same, none) = subst (λ (b : Bool). ServedBy k h.line (Ok b) d e) is (told h.line (now_known k turns (turns - i) c d h)) in
    subst (λ (ts : List Task). Part {T = Unit {0}} ts (Ok tt) c e) (serve_is k turns c h.line h.known)
    (subst (λ (y : Course). Part {T = Unit {0}} (Serve k h.line turns ∷ []) (Ok tt) c y) (sym same)
    (whole (Serve k h.line turns ∷ []) c d tt
    (passed (Serve k h.line turns ∷ []) (Serve k h.line (suc (turns - (i + 1)))) [] [] c d (at_next k turns i c d lt h) (none, refl))))

pub served_breaks : (k turns i : ℕ) (c d e : Course) (stop : Stop) → i < turns → Serving k turns (turns - i) c d → ServedTold k (Err stop) d e → Part {T = Bool} (serve_by k turns (slice_get c.net.scenario.monitors k)) (Err stop) c e
served_breaks k turns i c d e stop lt h told =
    subst (λ (ts : List Task). Part {T = Bool} ts (Err stop) c e) (serve_is k turns c h.line h.known)
    (stopped (Serve k h.line turns ∷ []) (Serve k h.line (suc (turns - (i + 1))) ∷ []) [] c d e stop
    (alone (Serve k h.line turns ∷ []) (Serve k h.line (suc (turns - (i + 1))) ∷ []) c d (at_next k turns i c d lt h))
    (told h.line (now_known k turns (turns - i) c d h) (turns - (i + 1))))

pub serving_there : (k turns left : ℕ) (c d : Course) → Serving k turns left c d → k < length d.net.scenario.monitors
serving_there k turns left c d h = slice_get_within d.net.scenario.monitors k h.line (now_known k turns left c d h)

pub serving_same : (k turns left : ℕ) (c d : Course) → Serving k turns left c d → d.net.scenario ≡ c.net.scenario
serving_same k turns left c d h = same_scenario h.on.goes

pub served_over : (k turns i : ℕ) (c d : Course) → turns ≤ i → Serving k turns (turns - i) c d → Part {T = Unit {0}} (serve_by k turns (slice_get c.net.scenario.monitors k)) (Ok tt) c d
served_over k turns i c d le h = served_all k turns i c d le h
