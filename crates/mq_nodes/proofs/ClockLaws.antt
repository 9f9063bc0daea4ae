-- The clocks of all managers in a loop.
use Rattle.std.specs.Prelude.{filter, not, if◌then◌else◌, ◌≡◌, ◌<◌, ◌≤◌, ◌+◌, ◌⊎◌, ◌==◌, ℕ, suc, Bool, false, List, [], ◌∷◌, ◌++◌, Option, Ok, Err, length, drop, refl}
use Rattle.std.proofs.Common.{ap, subst, sym, arith, append-nil, inl, inr, ◌∙◌}
use Rattle.std.proofs.lemmas.Bool.Decides.{nat_tests}
use Rattle.mq_history.specs.declared.acts.Act.TheVariants as acts
use Rattle.mq_history.specs.declared.calls.Actor.TheVariants as actors
use Rattle.mq_history.specs.declared.calls.Call.{Call}
use Rattle.mq_history.specs.declared.calls.Call.TheVariants as calls
use Rattle.mq_history.specs.declared.calls.Entry.{Entry}
use Rattle.mq_history.specs.declared.scenario.ManagerLine.{ManagerLine}
use Rattle.mq_spec_network.specs.from_spec_node.Node.{Node}
use Rattle.mq_spec_network.specs.from_spec_node.Lines.{lines_by}
use Rattle.mq_spec_network.specs.from_spec_node.Doers.{is_script, is_trigger, mains}
use Rattle.mq_spec_network.specs.Turns.{Network, node_at, node_of, does}
use Rattle.mq_spec_network.specs.Tasks.{Task, clocks, clocks_from, moment_of}
use Rattle.mq_spec_network.specs.Tasks.Task.{Ask}
use Rattle.mq_spec_network.specs.Steps.{Is, AreTriggers}
use Rattle.mq_spec_network.proofs.Going.{elsewhere, bool_case}
use Rattle.std.proofs.lemmas.List.Elements.{filter-append}
use Rattle.mq_nodes.specs.declared.nodes.Stop.{Stop}
use Rattle.mq_nodes.specs.Course.{Course, Did, Ready}
use Rattle.mq_nodes.specs.Told.{Does, Part, Onward, Clocked, later}
use Rattle.mq_nodes.proofs.Onward.{begin, moved, broke, whole}
use Rattle.mq_nodes.proofs.Asking.{at_place, none_left, same_or_less}

-- so many clocks are advanced
pub record Clocking (ms i end : ℕ) (c d : Course) : Type 0 where
  pub on : Onward (clocks c.net.scenario ms) (clocks_from i (drop i c.net.scenario.managers) ms) c d
  pub upto : end ≡ length c.net.scenario.managers
  pub clocked : Clocked i ms c d

pub begins : (ms end : ℕ) (c : Course) → Ready c.net → end ≡ length c.net.scenario.managers → Clocking ms 0 end c c
begins ms end c r e = record {
  on = begin (clocks c.net.scenario ms) c r;
  upto = e;
  clocked = record { moments = λ m lt. absurd (none m lt); others = λ m le. refl; lines = λ k m. refl; waits = refl };
} where
  none : (m : ℕ) → m < 0 → ⊥
  none m lt = omega arith

abbrev pub IsClock : ℕ → ℕ → ℕ → Entry → Type 0
IsClock m ms = Is m actors.Clock (calls.Act (acts.Clock ms))

-- the next clock
clock_on : (ms i : ℕ) (ls : List ManagerLine) (all : List Task) (c d e : Course) → i < length ls → Onward all (clocks_from i (drop i ls) ms) c d → Did (IsClock i ms) d e → Ready e.net → Onward all (clocks_from (suc i) (drop (suc i) ls) ms) c e
clock_on ms i ls all c d e lt h x r =
    let (y, at, unrolled) = at_place ls i lt in
    moved all (Ask i actors.Clock (calls.Act (acts.Clock ms))) (clocks_from (suc i) (drop (suc i) ls) ms) c d e
    (subst (λ (xs : List ManagerLine). Onward all (clocks_from i xs ms) c d) unrolled h) x r

-- What one manager does is nothing to the others, and a clock is nothing to scripts.
other_node : (m n : ℕ) (es : List Entry) (w : Network) → (n == m) ≡ false → node_at (does m es w) n ≡ node_at w n
other_node m n es w other = ap (λ (xs : List Entry). node_of (w.first n) xs) (elsewhere m n es w.done other)

pub by_none : (k : ℕ) (es : List Entry) → AreTriggers es → lines_by k es ≡ []
by_none k [] h = refl
by_none k (e ∷ es) h = ap (λ (c : Call). filter (λ (x : Entry). is_script k x.actor) (if not (is_trigger c) then e ∷ mains es else mains es)) h.0 ∙ by_none k es h.1

by_more : (k : ℕ) (xs ys : List Entry) → lines_by k (xs ++ ys) ≡ lines_by k xs ++ lines_by k ys
by_more k xs ys =
    ap (λ (zs : List Entry). filter (λ (x : Entry). is_script k x.actor) zs) (filter-append (λ (x : Entry). not (is_trigger x.call)) xs ys) ∙ filter-append (λ (x : Entry). is_script k x.actor) (mains xs) (mains ys)

by_clock : (k m ms at : ℕ) (e : Entry) (es : List Entry) → IsClock m ms at e → AreTriggers es → lines_by k (e ∷ es) ≡ []
by_clock k m ms at e es h due =
    ap (λ (b : Bool). filter (λ (x : Entry). is_script k x.actor) (if not b then e ∷ mains es else mains es)) (ap is_trigger h.2)
    ∙ ap (λ (b : Bool). if b then e ∷ lines_by k es else lines_by k es) (ap (is_script k) h.1)
    ∙ by_none k es due

pub same_lines : (k n at : ℕ) (es : List Entry) (w : Network) → lines_by k es ≡ [] → lines_by k ((does at es w).done n) ≡ lines_by k (w.done n)
same_lines k n at es w none = bool_case
    (λ (b : Bool). lines_by k (if b then w.done n ++ es else w.done n) ≡ lines_by k (w.done n))
    (by_more k (w.done n) es ∙ ap (λ (xs : List Entry). lines_by k (w.done n) ++ xs) none ∙ append-nil (lines_by k (w.done n)))
    refl
    (n == at)

another : (m n : ℕ) → (m < n) ⊎ (n < m) → (m == n) ≡ false
another m n (inl lt) = grind (arith, nat_tests)
another m n (inr lt) = grind (arith, nat_tests)

below : (m i : ℕ) → m < i + 1 → (m ≡ i) ⊎ (m < i)
below m i lt = same_or_less m i (omega arith)

net_of : (d e : Course) (at : ℕ) (es : List Entry) → e ≡ record d { net = does at es d.net } → e.net ≡ does at es d.net
net_of d e at es h = ap (λ (y : Course). y.net) h

node_stays : (ms i m : ℕ) (d e : Course) → Did (IsClock i ms) d e → (m < i) ⊎ (i < m) → node_at e.net m ≡ node_at d.net m
node_stays ms i m d e x apart =
    ap (λ (w : Network). node_at w m) (net_of d e x.at (x.entry ∷ x.behind) x.is)
    ∙ other_node x.at m (x.entry ∷ x.behind) d.net (subst (λ (y : ℕ). (m == y) ≡ false) (sym x.fits.0) (another m i apart))

clocked_on : (ms i : ℕ) (c d e : Course) → Clocked i ms c d → Did (IsClock i ms) d e → moment_of (node_at e.net i) ≡ later (moment_of (node_at d.net i)) ms → Clocked (i + 1) ms c e
clocked_on ms i c d e h x later_is = record {
  moments = λ m lt. at_one m (below m i lt);
  others = λ m le. node_stays ms i m d e x (inr (omega arith)) ∙ h.others m (omega arith);
  lines = λ k m. ap (λ (w : Network). lines_by k (w.done m)) (net_of d e x.at (x.entry ∷ x.behind) x.is) ∙ same_lines k m x.at (x.entry ∷ x.behind) d.net (by_clock k i ms x.at x.entry x.behind x.fits x.triggers) ∙ h.lines k m;
  waits = ap (λ (y : Course). y.waits) x.is ∙ h.waits;
} where
  here_it_is : moment_of (node_at e.net i) ≡ later (moment_of (node_at c.net i)) ms
  here_it_is = later_is ∙ ap (λ (n : Option Node). later (moment_of n) ms) (h.others i (omega arith))

  at_one : (m : ℕ) → (m ≡ i) ⊎ (m < i) → moment_of (node_at e.net m) ≡ later (moment_of (node_at c.net m)) ms
  at_one m (inl same) = subst (λ (y : ℕ). moment_of (node_at e.net y) ≡ later (moment_of (node_at c.net y)) ms) (sym same) here_it_is
  at_one m (inr lt) = ap moment_of (node_stays ms i m d e x (inl lt)) ∙ h.moments m lt

-- As the loop's goals have them.
pub keeps : (ms i end : ℕ) (c d e : Course) (done : Unit {0}) → i < end → Clocking ms i end c d → Does (IsClock i ms) (Ok done) d e → moment_of (node_at e.net i) ≡ later (moment_of (node_at d.net i)) ms → Clocking ms (i + 1) end c e
keeps ms i end c d e done lt h told later_is = record {
  on = subst (λ (y : ℕ). Onward (clocks c.net.scenario ms) (clocks_from y (drop y c.net.scenario.managers) ms) c e) (up i)
      (clock_on ms i c.net.scenario.managers (clocks c.net.scenario ms) c d e (subst (λ (y : ℕ). i < y) h.upto lt) h.on told.0 told.1);
  upto = h.upto;
  clocked = clocked_on ms i c d e h.clocked told.0 later_is;
} where
  up : (i : ℕ) → suc i ≡ i + 1
  up i = omega arith

pub fails : (ms i end : ℕ) (c d e : Course) (stop : Stop) → i < end → Clocking ms i end c d → Does {T = Unit {0}} (IsClock i ms) (Err stop) d e → Part {T = Unit {0}} (clocks c.net.scenario ms) (Err stop) c e
fails ms i end c d e stop lt h told =
    let (y, at, unrolled) = at_place c.net.scenario.managers i (subst (λ (y : ℕ). i < y) h.upto lt) in
    broke (clocks c.net.scenario ms) (Ask i actors.Clock (calls.Act (acts.Clock ms))) (clocks_from (suc i) (drop (suc i) c.net.scenario.managers) ms) c d e stop
    (subst (λ (xs : List ManagerLine). Onward (clocks c.net.scenario ms) (clocks_from i xs ms) c d) unrolled h.on) told

pub over : (ms i end : ℕ) (c d : Course) → end ≤ i → Clocking ms i end c d → Part {T = Unit {0}} (clocks c.net.scenario ms) (Ok tt) c d
over ms i end c d le h = whole (clocks c.net.scenario ms) c d tt
    (subst (λ (xs : List ManagerLine). Onward (clocks c.net.scenario ms) (clocks_from i xs ms) c d) (none_left c.net.scenario.managers i (subst (λ (y : ℕ). y ≤ i) h.upto le)) h.on)

pub all_clocked : (ms i end : ℕ) (c d : Course) → end ≤ i → i ≤ end → Clocking ms i end c d → Clocked (length c.net.scenario.managers) ms c d
all_clocked ms i end c d le ge h = subst (λ (y : ℕ). Clocked y ms c d) (same i end le ge ∙ h.upto) h.clocked
  where
    same : (i end : ℕ) → end ≤ i → i ≤ end → i ≡ end
    same i end a b = omega arith
