-- The scripts of a phase, one after the other.
use Rattle.std.specs.Prelude.{◌≡◌, ◌<◌, ◌≤◌, ◌+◌, ◌==◌, ℕ, zero, suc, Bool, true, false, List, [], ◌∷◌, ◌++◌, Option, Some, None, Result, Ok, Err, IsErrAnd, length, drop, slice_get, refl}
use Rattle.std.proofs.Common.{get_or}
use Rattle.std.proofs.Common.{ap, subst, sym, arith, inl, inr, ◌∙◌}
use Rattle.std.proofs.lemmas.Bool.Decides.{nat_tests}
use Rattle.mq_history.specs.Scenarios.{AllDiffer, ArePhased}
use Rattle.mq_history.specs.declared.calls.Entry.{Entry}
use Rattle.mq_history.specs.declared.scenario.Scenario.{Scenario}
use Rattle.mq_history.specs.declared.scenario.ScriptPart.{ScriptPart}
use Rattle.mq_history.specs.declared.scenario.Step.TheVariants as kinds
use Rattle.mq_history.specs.declared.scripts.ScriptLine.{ScriptLine}
use Rattle.mq_spec_network.specs.ScriptLines.{lines_left}
use Rattle.mq_spec_network.specs.Story.{Mem}
use Rattle.mq_spec_network.specs.Turns.{Network, node_at}
use Rattle.mq_spec_network.specs.Tasks.{Task, finish, moment_of, tasks_of, try_all, try_one}
use Rattle.mq_spec_network.specs.Tasks.Task.{Script}
use Rattle.mq_spec_network.specs.Steps.{Goes}
use Rattle.mq_spec_network.proofs.Going.{on, before_others}
use Rattle.mq_nodes.specs.declared.nodes.Stop.{Stop}
use Rattle.mq_nodes.specs.declared.nodes.Stop.TheVariants as stops
use Rattle.mq_nodes.specs.Course.{Course}
use Rattle.mq_nodes.specs.Told.{Alone, IsTried, KeptSo, MayTry, Part, Tries}
use Rattle.mq_nodes.proofs.Asking.{at_place, none_left, same_value}
use Rattle.mq_nodes.proofs.Onward.{same_scenario}
use Rattle.mq_nodes.proofs.PhasedLaws.{Finishing}
use Rattle.mq_steps.specs.Lines.{FinishRan, LinesTold}
use Rattle.mq_steps.proofs.PartLaws.{at_it, err_is}

-- So many scripts are done.
abbrev pub Phasing : List ℕ → ℕ → Course → Course → Type 0
Phasing ks i c d = Finishing ks (drop i ks) c d

up : (i : ℕ) → suc i ≡ i + 1
up i = omega arith

unrolled : (ks : List ℕ) (i k : ℕ) → slice_get ks i ≡ Some k → i < length ks → drop i ks ≡ k ∷ drop (i + 1) ks
unrolled ks i k is lt =
    let (y, at, parts) = at_place ks i lt in
    parts ∙ ap (λ (n : ℕ). n ∷ drop (suc i) ks) (same_value y k (sym at ∙ is)) ∙ ap (λ (n : ℕ). k ∷ drop n ks) (up i)

-- the next one
next_tasks : (ks : List ℕ) (i k : ℕ) (w : Network) (p : ScriptPart) → slice_get ks i ≡ Some k → i < length ks → slice_get w.scenario.scripts k ≡ Some p
    → finish (try_all w (drop i ks)) ≡ Script k p (Some (moment_of (node_at w p.manager))) None ∷ finish (try_all w (drop (i + 1) ks))
next_tasks ks i k w p is lt part =
    ap (λ (ns : List ℕ). finish (try_all w ns)) (unrolled ks i k is lt)
    ∙ ap (λ (o : Option ScriptPart). finish (try_one w k o ++ try_all w (drop (i + 1) ks))) part

-- none comes twice
later : (ks : List ℕ) (n k : ℕ) → Mem k (drop n ks) → (j : ℕ) × (n ≤ j) × (j < length ks) × (get_or ks j 0 ≡ k)
later [] zero k m = absurd m
later [] (suc n) k m = absurd m
later (x ∷ xs) zero k (inl e) = (0, omega arith, omega arith, sym e)
later (x ∷ xs) zero k (inr m) =
    let (j, le, lt, is) = later xs zero k m in
    (suc j, omega (arith, le), omega (arith, lt), is)
later (x ∷ xs) (suc n) k m =
    let (j, le, lt, is) = later xs n k m in
    (suc j, omega (arith, le), omega (arith, lt), is)

get_is : (ks : List ℕ) (i k : ℕ) → slice_get ks i ≡ Some k → get_or ks i 0 ≡ k
get_is [] i k h = absurd cc
get_is (x ∷ xs) zero k h = same_value x k h
get_is (x ∷ xs) (suc i) k h = get_is xs i k h

once : (ks : List ℕ) (i k : ℕ) → AllDiffer ks → slice_get ks i ≡ Some k → Mem k (drop (suc i) ks) → ⊥
once ks i k differ is m =
    let (j, le, lt, at) = later ks (suc i) k m in
    differ i j 0 (omega (arith, le)) lt (get_is ks i k is ∙ sym at)

are_same : (j k : ℕ) → (j == k) ≡ true → j ≡ k
are_same j k h = grind (arith, nat_tests)

itself : (k : ℕ) → (k == k) ≡ true
itself k = grind (arith, nat_tests)

not_both : {A : Type 0} (b : Bool) → b ≡ true → b ≡ false → A
not_both b x y = absurd cc

-- Those that are left keep the deadlines of their gets, while one is finished.
tries_on : (ks : List ℕ) (i k : ℕ) (c d e : Course) → AllDiffer ks → slice_get ks i ≡ Some k → i < length ks → Tries (drop i ks) c d → Alone k d e → Tries (drop (i + 1) ks) c e
tries_on ks i k c d e differ is lt h a = record {
  others = λ j none. other j none (j == k) refl;
  each = λ j p m part. kept j p m part (j == k) refl;
}
  where
    opened : (j : ℕ) → Mem j (drop i ks) → Mem j (k ∷ drop (i + 1) ks)
    opened j m = subst (λ (ns : List ℕ). Mem j ns) (unrolled ks i k is lt) m

    apart : (j : ℕ) → (j == k) ≡ false → (Mem j (drop (i + 1) ks) → ⊥) → Mem j (k ∷ drop (i + 1) ks) → ⊥
    apart j o none (inl s) = not_both (j == k) (ap (λ (n : ℕ). n == k) s ∙ itself k) o
    apart j o none (inr m) = none m

    other : (j : ℕ) → (Mem j (drop (i + 1) ks) → ⊥) → (b : Bool) → (j == k) ≡ b → e.waits j ≡ None
    other j none true s = subst (λ (n : ℕ). e.waits n ≡ None) (sym (are_same j k s)) a.rests
    other j none false o = a.waits j o ∙ h.others j (λ m. apart j o none (opened j m))

    left_same : (j : ℕ) (p : ScriptPart) → (j == k) ≡ false → lines_left e.net j p ≡ lines_left d.net j p
    left_same j p o = ap (λ (xs : List Entry). drop (length xs) p.lines) (a.lines j p.manager o)

    kept : (j : ℕ) (p : ScriptPart) → Mem j (drop (i + 1) ks) → slice_get c.net.scenario.scripts j ≡ Some p → (b : Bool) → (j == k) ≡ b → IsTried j p (Some (moment_of (node_at c.net p.manager))) e
    kept j p m part true s = absurd (once ks i k differ is (subst (λ (n : ℕ). Mem k (drop n ks)) (sym (up i)) (subst (λ (n : ℕ). Mem n (drop (i + 1) ks)) (are_same j k s) m)))
    kept j p m part false o =
        subst (λ (ls : List ScriptLine). KeptSo (Some (moment_of (node_at c.net p.manager))) ls (e.waits j)) (sym (left_same j p o))
        (subst (λ (u : Option ℕ). KeptSo (Some (moment_of (node_at c.net p.manager))) (lines_left d.net j p) u) (sym (a.waits j o))
        (h.each j p (subst (λ (ns : List ℕ). Mem j ns) (sym (unrolled ks i k is lt)) (inr m)) part))

-- the next one's get
next_tried : (ks : List ℕ) (i k : ℕ) (p : ScriptPart) (c d : Course) → slice_get ks i ≡ Some k → i < length ks → slice_get c.net.scenario.scripts k ≡ Some p → Phasing ks i c d → IsTried k p (Some (moment_of (node_at c.net p.manager))) d
next_tried ks i k p c d is lt part h = h.tries.each k p (subst (λ (ns : List ℕ). Mem k ns) (sym (unrolled ks i k is lt)) (inl refl)) part

told_then : (ks : List ℕ) (i k : ℕ) (p : ScriptPart) (r : Result (Unit {0}) Stop) (c d e : Course) → slice_get ks i ≡ Some k → i < length ks → slice_get c.net.scenario.scripts k ≡ Some p → Phasing ks i c d → FinishRan k (Some p) r d e
    → LinesTold k (Script k p (Some (moment_of (node_at c.net p.manager))) None ∷ []) r d e
told_then ks i k p r c d e is lt part h ran =
    ran (Some (moment_of (node_at c.net p.manager)))
    (λ q same. subst (λ (x : ScriptPart). IsTried k x (Some (moment_of (node_at c.net p.manager))) d) (same_value p q same) (next_tried ks i k p c d is lt part h))

goes_then : (ks : List ℕ) (i k : ℕ) (p : ScriptPart) (c d e : Course) (left : List Task) → slice_get ks i ≡ Some k → i < length ks → slice_get c.net.scenario.scripts k ≡ Some p → Phasing ks i c d
    → Goes d.net (Script k p (Some (moment_of (node_at c.net p.manager))) None ∷ []) e.net left → Goes c.net (tasks_of c.net (kinds.Phase ks)) e.net (left ++ finish (try_all c.net (drop (i + 1) ks)))
goes_then ks i k p c d e left is lt part h g =
    on (subst (λ (ts : List Task). Goes c.net (tasks_of c.net (kinds.Phase ks)) d.net ts) (next_tasks ks i k c.net p is lt part) h.goes) (before_others (finish (try_all c.net (drop (i + 1) ks))) g)

phase_goes : (ks : List ℕ) (i k : ℕ) (p : ScriptPart) (c d e : Course) (done : Unit {0}) → AllDiffer ks → slice_get ks i ≡ Some k → i < length ks → slice_get c.net.scenario.scripts k ≡ Some p → Phasing ks i c d → FinishRan k (Some p) (Ok done) d e → Phasing ks (i + 1) c e
phase_goes ks i k p c d e done differ is lt part h ran =
    let told = told_then ks i k p (Ok done) c d e is lt part h ran in
    record {
      goes = subst (λ (ts : List Task). Goes c.net (tasks_of c.net (kinds.Phase ks)) e.net (ts ++ finish (try_all c.net (drop (i + 1) ks)))) told.0.ends.0 (goes_then ks i k p c d e told.0.left is lt part h told.0.goes);
      ready = told.0.ends.1;
      marks = told.0.marks ∙ h.marks;
      tries = tries_on ks i k c d e differ is lt h.tries told.1;
    }

phase_breaks : (ks : List ℕ) (i k : ℕ) (p : ScriptPart) (c d e : Course) (stop : Stop) → slice_get ks i ≡ Some k → i < length ks → slice_get c.net.scenario.scripts k ≡ Some p → Phasing ks i c d → FinishRan k (Some p) (Err stop) d e
    → Part {T = Unit {0}} (tasks_of c.net (kinds.Phase ks)) (Err stop) c e
phase_breaks ks i k p c d e stops.NoMemory is lt part h ran =
    let told = told_then ks i k p (Err stops.NoMemory) c d e is lt part h ran in
    record { left = told.0.left ++ finish (try_all c.net (drop (i + 1) ks)); goes = goes_then ks i k p c d e told.0.left is lt part h told.0.goes; marks = told.0.marks ∙ h.marks; ends = tt }
phase_breaks ks i k p c d e (stops.Spent m) is lt part h ran =
    let told = told_then ks i k p (Err (stops.Spent m)) c d e is lt part h ran in
    record { left = told.0.left ++ finish (try_all c.net (drop (i + 1) ks)); goes = goes_then ks i k p c d e told.0.left is lt part h told.0.goes; marks = told.0.marks ∙ h.marks; ends = told.0.ends }

pub phase_over : (ks : List ℕ) (i : ℕ) (c d : Course) (done : Unit {0}) → length ks ≤ i → Phasing ks i c d → Part (tasks_of c.net (kinds.Phase ks)) (Ok done) c d
phase_over ks i c d done le h = record {
  left = [];
  goes = subst (λ (ns : List ℕ). Goes c.net (tasks_of c.net (kinds.Phase ks)) d.net (finish (try_all c.net ns))) (none_left ks i le) h.goes;
  marks = h.marks;
  ends = (refl, h.ready, λ q k. h.tries.others k (λ m. subst (λ (ns : List ℕ). Mem k ns) (none_left ks i le) m));
}

-- each of them is there
pub script_there : (s : Scenario) (ks : List ℕ) (i k : ℕ) → ArePhased s ks → slice_get ks i ≡ Some k → (p : ScriptPart) × (slice_get s.scripts k ≡ Some p)
script_there s ks i k h is = found s.scripts k (at_it (λ (n : ℕ). n < length s.scripts) ks i k h.there is)
  where
    nothing : (n : ℕ) → n < 0 → ⊥
    nothing n lt = omega arith

    found : (ps : List ScriptPart) (n : ℕ) → n < length ps → (p : ScriptPart) × (slice_get ps n ≡ Some p)
    found [] n lt = absurd (nothing n lt)
    found (p ∷ ps) zero lt = (p, refl)
    found (p ∷ ps) (suc n) lt = found ps n (omega arith)

read_at : (ks : List ℕ) (i : ℕ) → i < length ks → slice_get ks i ≡ Some (get_or ks i 0)
read_at [] i lt = absurd (nothing i lt)
  where
    nothing : (n : ℕ) → n < 0 → ⊥
    nothing n h = omega arith
read_at (k ∷ ks) zero lt = refl
read_at (k ∷ ks) (suc i) lt = read_at ks i (omega arith)

-- the loop's two ways on, and what the next script's finish asks
pub phase_may : (s : Scenario) (ks : List ℕ) (i : ℕ) (c d : Course) → c.net.scenario ≡ s → i < length ks → Phasing ks i c d → (p : ScriptPart) → slice_get s.scripts (get_or ks i 0) ≡ Some p → MayTry (get_or ks i 0) p d
phase_may s ks i c d same lt h p part =
    (Some (moment_of (node_at c.net p.manager)), next_tried ks i (get_or ks i 0) p c d (read_at ks i lt) lt (ap (λ (x : Scenario). slice_get x.scripts (get_or ks i 0)) same ∙ part) h)

pub phase_on : (s : Scenario) (ks : List ℕ) (i : ℕ) (c d e : Course) (done : Unit {0}) → c.net.scenario ≡ s → ArePhased s ks → i < length ks → Phasing ks i c d → FinishRan (get_or ks i 0) (slice_get s.scripts (get_or ks i 0)) (Ok done) d e → Phasing ks (i + 1) c e
phase_on s ks i c d e done same phased lt h ran =
    let k : ℕ = get_or ks i 0 in
    let is : slice_get ks i ≡ Some k = read_at ks i lt in
    let found = script_there s ks i k phased is in
    phase_goes ks i k found.0 c d e done phased.differ is lt (subst (λ (x : Scenario). slice_get x.scripts k ≡ Some found.0) (sym same) found.1) h
    (subst (λ (o : Option ScriptPart). FinishRan k o (Ok done) d e) found.1 ran)

pub phase_off : (s : Scenario) (ks : List ℕ) (i : ℕ) (r : Result (Unit {0}) Stop) (c d e : Course) (stop : Stop) → IsErrAnd r (λ (y : Stop). y ≡ stop) → c.net.scenario ≡ s → ArePhased s ks → i < length ks → Phasing ks i c d
    → FinishRan (get_or ks i 0) (slice_get s.scripts (get_or ks i 0)) (Err stop) d e → Part (tasks_of c.net (kinds.Phase ks)) r c e
phase_off s ks i r c d e stop err same phased lt h ran =
    let k : ℕ = get_or ks i 0 in
    let is : slice_get ks i ≡ Some k = read_at ks i lt in
    let found = script_there s ks i k phased is in
    subst (λ (x : Result (Unit {0}) Stop). Part (tasks_of c.net (kinds.Phase ks)) x c e) (sym (err_is r stop err))
    (phase_breaks ks i k found.0 c d e stop is lt (subst (λ (x : Scenario). slice_get x.scripts k ≡ Some found.0) (sym same) found.1) h
    (subst (λ (o : Option ScriptPart). FinishRan k o (Err stop) d e) found.1 ran))

pub phase_same : (ks : List ℕ) (i : ℕ) (c d : Course) → Phasing ks i c d → d.net.scenario ≡ c.net.scenario
phase_same ks i c d h = same_scenario h.goes
