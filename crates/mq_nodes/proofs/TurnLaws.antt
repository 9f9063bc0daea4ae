-- Turns of handlers and monitors in loops.
use Rattle.std.specs.Prelude.{◌≡◌, ◌<◌, ◌≤◌, ◌+◌, ◌-◌, ℕ, suc, Bool, true, false, List, [], ◌∷◌, ◌++◌, Option, Some, None, Ok, Err, length, slice_get, refl}
use Rattle.std.proofs.Common.{ap, subst, sym, arith, ◌∙◌}
use Rattle.mq_history.specs.declared.calls.Entry.{Entry}
use Rattle.mq_history.specs.declared.scenario.MonitorLine.{MonitorLine}
use Rattle.mq_history.specs.declared.scenario.RulesPart.{RulesPart}
use Rattle.mq_history.specs.declared.scenario.Scenario.{Scenario}
use Rattle.mq_spec_network.specs.Turns.{Network, node_at}
use Rattle.mq_spec_network.specs.Tasks.{Task, handle_with, serve_by, run_script}
use Rattle.mq_spec_network.specs.Tasks.Task.{Handle, Serve}
use Rattle.mq_spec_network.specs.Steps.{MonitorGets, handler_idle, begun}
use Rattle.mq_spec_network.specs.Lawful.{handles_idle}
use Rattle.mq_nodes.specs.declared.nodes.Stop.{Stop}
use Rattle.mq_nodes.specs.declared.nodes.Monitored.TheVariants as monitors
use Rattle.mq_nodes.specs.Course.{Course, Did, Ready}
use Rattle.mq_nodes.specs.Told.{Part, Onward, HandlerTold, HandlerOf, TurnTold, begun_by}
use Rattle.mq_nodes.proofs.Onward.{begin, moved, broke, passed, unframed, behind, stopped, whole, of_part, same_scenario}
use Rattle.mq_nodes.proofs.Asking.{at_place}
use Rattle.mq_nodes.proofs.LineLaws.{fits_too}

less_one : (n i : ℕ) → i < n → n - i ≡ suc (n - (i + 1))
less_one n i lt = omega arith

no_more : (n i : ℕ) → n ≤ i → n - i ≡ 0
no_more n i le = omega arith

-- So many turns of a handler are left.
pub record Handling (k turns left : ℕ) (c d : Course) : Type 0 where
  pub part : RulesPart
  pub known : slice_get c.net.scenario.rules k ≡ Some part
  pub on : Onward (Handle k part.manager turns ∷ []) (Handle k part.manager left ∷ []) c d

now_known : (k turns left : ℕ) (c d : Course) (h : Handling k turns left c d) → slice_get d.net.scenario.rules k ≡ Some h.part
now_known k turns left c d h = ap (λ (x : Scenario). slice_get x.rules k) (same_scenario h.on.goes) ∙ h.known

pub handling_begins : (k turns count : ℕ) (c : Course) → Ready c.net → k < length c.net.scenario.rules → Handling k turns (turns - 0) c c
handling_begins k turns count c ready lt =
    let (p, known, rest) = at_place c.net.scenario.rules k lt in
    record { part = p; known = known; on = subst (λ (n : ℕ). Onward (Handle k p.manager turns ∷ []) (Handle k p.manager n ∷ []) c c) (all turns) (begin (Handle k p.manager turns ∷ []) c ready) }
  where
    all : (n : ℕ) → n ≡ n - 0
    all n = omega arith

at_left : (k turns i : ℕ) (c d : Course) → i < turns → (h : Handling k turns (turns - i) c d) → Onward (Handle k h.part.manager turns ∷ []) (Handle k h.part.manager (suc (turns - (i + 1))) ∷ []) c d
at_left k turns i c d lt h = subst (λ (n : ℕ). Onward (Handle k h.part.manager turns ∷ []) (Handle k h.part.manager n ∷ []) c d) (less_one turns i lt) h.on

pub handled : (k turns i : ℕ) (c d e : Course) (tried : Bool) → i < turns → tried ≡ true → Handling k turns (turns - i) c d → HandlerTold k (Ok tried) d e → Handling k turns (turns - (i + 1)) c e
handled k turns i c d e tried lt yes_it h told =
    let (x, ready) = subst (λ (b : Bool). HandlerOf k h.part (Ok b) d e) yes_it (told h.part (now_known k turns (turns - i) c d h)) in
    record {
      part = h.part;
      known = h.known;
      on = moved (Handle k h.part.manager turns ∷ []) (Handle k h.part.manager (suc (turns - (i + 1)))) [] c d e (at_left k turns i c d lt h) x ready;
    }

is_part : (k turns : ℕ) (c : Course) (p : RulesPart) → slice_get c.net.scenario.rules k ≡ Some p → Handle k p.manager turns ∷ [] ≡ handle_with k turns (slice_get c.net.scenario.rules k)
is_part k turns c p known = sym (ap (handle_with k turns) known)

pub handler_rests : (k turns i : ℕ) (c d e : Course) (tried : Bool) → i < turns → tried ≡ false → Handling k turns (turns - i) c d → HandlerTold k (Ok tried) d e
    → Part {T = Bool} (handle_with k turns (slice_get c.net.scenario.rules k)) (Ok true) c e × (true ≡ handles_idle k (slice_get c.net.scenario.rules k) e.net)
handler_rests k turns i c d e tried lt no_it h told =
    let (same, idle) = subst (λ (b : Bool). HandlerOf k h.part (Ok b) d e) no_it (told h.part (now_known k turns (turns - i) c d h)) in (
      subst (λ (ts : List Task). Part {T = Bool} ts (Ok true) c e) (is_part k turns c h.part h.known)
          (subst (λ (y : Course). Part {T = Bool} (Handle k h.part.manager turns ∷ []) (Ok true) c y) (sym same)
          (whole (Handle k h.part.manager turns ∷ []) c d true
          (passed (Handle k h.part.manager turns ∷ []) (Handle k h.part.manager (suc (turns - (i + 1)))) [] [] c d (at_left k turns i c d lt h) (idle, refl)))),
      sym (ap (λ (x : Option RulesPart). handles_idle k x e.net) h.known ∙ ap (λ (y : Course). handler_idle k (node_at y.net h.part.manager)) same ∙ idle),
    )

pub handler_breaks : (k turns i : ℕ) (c d e : Course) (stop : Stop) → i < turns → Handling k turns (turns - i) c d → HandlerTold k (Err stop) d e → Part {T = Bool} (handle_with k turns (slice_get c.net.scenario.rules k)) (Err stop) c e
handler_breaks k turns i c d e stop lt h told =
    subst (λ (ts : List Task). Part {T = Bool} ts (Err stop) c e) (is_part k turns c h.part h.known)
    (broke (Handle k h.part.manager turns ∷ []) (Handle k h.part.manager (suc (turns - (i + 1)))) [] c d e stop (at_left k turns i c d lt h) (told h.part (now_known k turns (turns - i) c d h)))

pub handled_all : (k turns i : ℕ) (c d : Course) (idle : Bool) → turns ≤ i → Handling k turns (turns - i) c d → Part {T = Bool} (handle_with k turns (slice_get c.net.scenario.rules k)) (Ok idle) c d
handled_all k turns i c d idle le h =
    subst (λ (ts : List Task). Part {T = Bool} ts (Ok idle) c d) (is_part k turns c h.part h.known)
    (whole (Handle k h.part.manager turns ∷ []) c d idle
    (passed (Handle k h.part.manager turns ∷ []) (Handle k h.part.manager 0) [] [] c d
    (subst (λ (n : ℕ). Onward (Handle k h.part.manager turns ∷ []) (Handle k h.part.manager n ∷ []) c d) (no_more turns i le) h.on) refl))

pub rules_stay : (k turns left : ℕ) (c d : Course) → Handling k turns left c d → slice_get d.net.scenario.rules k ≡ slice_get c.net.scenario.rules k
rules_stay k turns left c d h = ap (λ (x : Scenario). slice_get x.rules k) (same_scenario h.on.goes)

-- So many turns of a monitor are left.
pub record Serving (k turns left : ℕ) (c d : Course) : Type 0 where
  pub line : MonitorLine
  pub known : slice_get c.net.scenario.monitors k ≡ Some line
  pub on : Onward (Serve k line turns ∷ []) (Serve k line left ∷ []) c d

served_by : (k turns left : ℕ) (c d : Course) (h : Serving k turns left c d) → slice_get d.net.scenario.monitors k ≡ Some h.line
served_by k turns left c d h = ap (λ (x : Scenario). slice_get x.monitors k) (same_scenario h.on.goes) ∙ h.known

pub serving_begins : (k turns : ℕ) (c : Course) → Ready c.net → k < length c.net.scenario.monitors → Serving k turns (turns - 0) c c
serving_begins k turns c ready lt =
    let (l, known, rest) = at_place c.net.scenario.monitors k lt in
    record { line = l; known = known; on = subst (λ (n : ℕ). Onward (Serve k l turns ∷ []) (Serve k l n ∷ []) c c) (all turns) (begin (Serve k l turns ∷ []) c ready) }
  where
    all : (n : ℕ) → n ≡ n - 0
    all n = omega arith

serve_left : (k turns i : ℕ) (c d : Course) → i < turns → (h : Serving k turns (turns - i) c d) → Onward (Serve k h.line turns ∷ []) (Serve k h.line (suc (turns - (i + 1))) ∷ []) c d
serve_left k turns i c d lt h = subst (λ (n : ℕ). Onward (Serve k h.line turns ∷ []) (Serve k h.line n ∷ []) c d) (less_one turns i lt) h.on

gets_it : (k : ℕ) (l : MonitorLine) (w : Network) (script : Option ℕ) (m : ℕ) (e : Entry) → MonitorGets k l w m e × (begun_by w l e ≡ script) → MonitorGets k l w m e
gets_it k l w script m e h = h.0

-- what a turn leaves: the script that it begins, and the turns behind
pub turn_on : (k turns i : ℕ) (c d e : Course) (script : Option ℕ) → i < turns → (h : Serving k turns (turns - i) c d) → Did (λ m x. MonitorGets k h.line d.net m x × (begun_by d.net h.line x ≡ script)) d e → Ready e.net
    → Onward (Serve k h.line turns ∷ []) (begun d.net.scenario script ++ Serve k h.line (turns - (i + 1)) ∷ []) c e
turn_on k turns i c d e script lt h x ready =
    subst (λ (s : Option ℕ). Onward (Serve k h.line turns ∷ []) (begun d.net.scenario s ++ Serve k h.line (turns - (i + 1)) ∷ []) c e) x.fits.1
    (unframed (Serve k h.line turns ∷ []) (begun d.net.scenario (begun_by d.net h.line x.entry) ++ Serve k h.line (turns - (i + 1)) ∷ []) c e
    (moved (Serve k h.line turns ∷ []) (Serve k h.line (suc (turns - (i + 1)))) [] c d e (serve_left k turns i c d lt h) (fits_too d e (gets_it k h.line d.net script) x) ready))

pub got : (k turns i : ℕ) (c d e : Course) → i < turns → Serving k turns (turns - i) c d → TurnTold k (Ok monitors.Got) d e → Serving k turns (turns - (i + 1)) c e
got k turns i c d e lt h told =
    let (x, ready) = told h.line (served_by k turns (turns - i) c d h) in
    record { line = h.line; known = h.known; on = turn_on k turns i c d e None lt h x ready }

-- a script begins, and runs
pub record Begun (k turns i script : ℕ) (c e : Course) : Type 0 where
  pub line : MonitorLine
  pub known : slice_get c.net.scenario.monitors k ≡ Some line
  pub on : Onward (Serve k line turns ∷ []) (run_script script None (slice_get c.net.scenario.scripts script) ++ Serve k line (turns - (i + 1)) ∷ []) c e

pub began : (k turns i script : ℕ) (c d e : Course) → i < turns → Serving k turns (turns - i) c d → TurnTold k (Ok (monitors.Started script)) d e → Begun k turns i script c e
began k turns i script c d e lt h told =
    let (x, ready) = told h.line (served_by k turns (turns - i) c d h) in
    record {
      line = h.line;
      known = h.known;
      on = subst (λ (s : Scenario). Onward (Serve k h.line turns ∷ []) (run_script script None (slice_get s.scripts script) ++ Serve k h.line (turns - (i + 1)) ∷ []) c e) (same_scenario h.on.goes)
          (turn_on k turns i c d e (Some script) lt h x ready);
    }

pub ran : (k turns i script : ℕ) (c e f : Course) (done : Unit {0}) → Begun k turns i script c e → Part (run_script script None (slice_get c.net.scenario.scripts script)) (Ok done) e f → Serving k turns (turns - (i + 1)) c f
ran k turns i script c e f done h part = record {
  line = h.line;
  known = h.known;
  on = behind (Serve k h.line turns ∷ []) (run_script script None (slice_get c.net.scenario.scripts script)) [] (Serve k h.line (turns - (i + 1)) ∷ []) c e f h.on (of_part (run_script script None (slice_get c.net.scenario.scripts script)) e f done part);
}

serve_is : (k turns : ℕ) (c : Course) (l : MonitorLine) → slice_get c.net.scenario.monitors k ≡ Some l → Serve k l turns ∷ [] ≡ serve_by k turns (slice_get c.net.scenario.monitors k)
serve_is k turns c l known = sym (ap (serve_by k turns) known)

pub run_breaks : (k turns i script : ℕ) (c e f : Course) (stop : Stop) → Begun k turns i script c e → Part {T = Unit {0}} (run_script script None (slice_get c.net.scenario.scripts script)) (Err stop) e f
    → Part {T = Unit {0}} (serve_by k turns (slice_get c.net.scenario.monitors k)) (Err stop) c f
run_breaks k turns i script c e f stop h part =
    subst (λ (ts : List Task). Part {T = Unit {0}} ts (Err stop) c f) (serve_is k turns c h.line h.known)
    (stopped (Serve k h.line turns ∷ []) (run_script script None (slice_get c.net.scenario.scripts script)) (Serve k h.line (turns - (i + 1)) ∷ []) c e f stop h.on part)

pub monitor_breaks : (k turns i : ℕ) (c d e : Course) (stop : Stop) → i < turns → Serving k turns (turns - i) c d → TurnTold k (Err stop) d e → Part {T = Unit {0}} (serve_by k turns (slice_get c.net.scenario.monitors k)) (Err stop) c e
monitor_breaks k turns i c d e stop lt h told =
    subst (λ (ts : List Task). Part {T = Unit {0}} ts (Err stop) c e) (serve_is k turns c h.line h.known)
    (broke (Serve k h.line turns ∷ []) (Serve k h.line (suc (turns - (i + 1)))) [] c d e stop (serve_left k turns i c d lt h) (told h.line (served_by k turns (turns - i) c d h)))

pub monitor_rests : (k turns i : ℕ) (c d e : Course) → i < turns → Serving k turns (turns - i) c d → TurnTold k (Ok monitors.Idle) d e → Part {T = Unit {0}} (serve_by k turns (slice_get c.net.scenario.monitors k)) (Ok tt) c e
monitor_rests k turns i c d e lt h told =
    let (same, none) = told h.line (served_by k turns (turns - i) c d h) in
    subst (λ (ts : List Task). Part {T = Unit {0}} ts (Ok tt) c e) (serve_is k turns c h.line h.known)
    (subst (λ (y : Course). Part {T = Unit {0}} (Serve k h.line turns ∷ []) (Ok tt) c y) (sym same)
    (whole (Serve k h.line turns ∷ []) c d tt
    (passed (Serve k h.line turns ∷ []) (Serve k h.line (suc (turns - (i + 1)))) [] [] c d (serve_left k turns i c d lt h) (none, refl))))

pub served_all : (k turns i : ℕ) (c d : Course) → turns ≤ i → Serving k turns (turns - i) c d → Part {T = Unit {0}} (serve_by k turns (slice_get c.net.scenario.monitors k)) (Ok tt) c d
served_all k turns i c d le h =
    subst (λ (ts : List Task). Part {T = Unit {0}} ts (Ok tt) c d) (serve_is k turns c h.line h.known)
    (whole (Serve k h.line turns ∷ []) c d tt
    (passed (Serve k h.line turns ∷ []) (Serve k h.line 0) [] [] c d
    (subst (λ (n : ℕ). Onward (Serve k h.line turns ∷ []) (Serve k h.line n ∷ []) c d) (no_more turns i le) h.on) refl))
