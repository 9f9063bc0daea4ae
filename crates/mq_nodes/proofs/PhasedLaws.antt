-- A phase, manager by manager, is the first task of its step; what is left of its scripts stands behind it.
use Rattle.std.specs.Prelude.{◌≡◌, ◌<◌, ◌≤◌, ◌==◌, ℕ, zero, suc, nat_lt, Bool, true, false, List, [], ◌++◌, Result, Ok, Err, IsErrAnd, length, refl}
use Rattle.std.proofs.Common.{ap, subst, sym, append-nil, arith, ◌∙◌}
use Rattle.std.proofs.lemmas.Bool.Decides.{nat_tests}
use Rattle.mq_history.specs.declared.calls.Entry.{Entry}
use Rattle.mq_history.specs.declared.scenario.Step.TheVariants as kinds
use Rattle.mq_spec_network.specs.Turns.{Network}
use Rattle.mq_spec_network.specs.Tasks.{finish, tasks_of, try_all}
use Rattle.mq_spec_network.specs.Tasks.Task.{Phase}
use Rattle.mq_spec_network.specs.Steps.{Goes}
use Rattle.mq_spec_network.specs.Steps.Goes.{stays, passes}
use Rattle.mq_spec_network.proofs.Going.{elsewhere, here, same_network}
use Rattle.mq_spec_network.proofs.Threads.{does_each, phase_joined}
use Rattle.mq_nodes.specs.declared.nodes.Stop.{Stop}
use Rattle.mq_nodes.specs.declared.nodes.Stop.TheVariants as stops
use Rattle.mq_nodes.specs.Course.{Course, Ready}
use Rattle.mq_nodes.specs.Told.{Part, PhaseTold, Phased, Tries}

-- What the first managers do more, one after the other, is what each of them does more.
itself : (m : ℕ) → (m == m) ≡ true
itself m = grind (arith, nat_tests)

differs : (m n : ℕ) → nat_lt m n ≡ true → (m == n) ≡ false
differs m n lt = grind (arith, nat_tests)

above : (m n : ℕ) → n < m → (m == n) ≡ false
above m n lt = grind (arith, nat_tests)

is_below : (m n : ℕ) → nat_lt m n ≡ true → m < n
is_below m n lt = grind (arith, nat_tests)

is_last : (m n : ℕ) → m < suc n → nat_lt m n ≡ false → n ≡ m
is_last m n lt not = grind (arith, nat_tests)

each_scenario : (n : ℕ) (es : ℕ → List Entry) (w : Network) → (does_each n es w).scenario ≡ w.scenario
each_scenario zero es w = refl
each_scenario (suc n) es w = each_scenario n es w

each_first : (n : ℕ) (es : ℕ → List Entry) (w : Network) (m : ℕ) → (does_each n es w).first m ≡ w.first m
each_first zero es w m = refl
each_first (suc n) es w m = each_first n es w m

untouched : (n m : ℕ) (es : ℕ → List Entry) (w : Network) → n ≤ m → (does_each n es w).done m ≡ w.done m
untouched zero m es w le = refl
untouched (suc n) m es w le = elsewhere n m (es n) (does_each n es w).done (above m n (omega arith)) ∙ untouched n m es w (omega arith)

done_then : (n m : ℕ) (es : ℕ → List Entry) (w : Network) → m < suc n → (m < n → (does_each n es w).done m ≡ w.done m ++ es m) → (b : Bool) → nat_lt m n ≡ b → (does_each (suc n) es w).done m ≡ w.done m ++ es m
done_then n m es w lt before true e = elsewhere n m (es n) (does_each n es w).done (differs m n e) ∙ before (is_below m n e)
done_then n m es w lt before false e =
    subst (λ (k : ℕ). (does_each (suc n) es w).done k ≡ w.done k ++ es k) (is_last m n lt e)
    (here n (es n) (does_each n es w).done (itself n) ∙ ap (λ (ds : List Entry). ds ++ es n) (untouched n n es w (omega arith)))

nothing : (k : ℕ) → k < 0 → ⊥
nothing k h = omega arith

each_done : (n m : ℕ) (es : ℕ → List Entry) (w : Network) → m < n → (does_each n es w).done m ≡ w.done m ++ es m
each_done zero m es w lt = absurd (nothing m lt)
each_done (suc n) m es w lt = done_then n m es w lt (λ h. each_done n m es w h) (nat_lt m n) refl

each_is : (n : ℕ) (es : ℕ → List Entry) (w : Network) → ((m : ℕ) → n ≤ m → es m ≡ []) → does_each n es w ≡ record w { done = λ m. w.done m ++ es m }
each_is n es w none = same_network (does_each n es w) (record w { done = λ m. w.done m ++ es m }) (each_scenario n es w) (each_first n es w) (λ m. by_place m (nat_lt m n) refl)
  where
    not_below : (m : ℕ) → nat_lt m n ≡ false → n ≤ m
    not_below m e = grind (arith, nat_tests)

    by_place : (m : ℕ) (b : Bool) → nat_lt m n ≡ b → (does_each n es w).done m ≡ w.done m ++ es m
    by_place m true e = each_done n m es w (is_below m n e)
    by_place m false e = untouched n m es w (not_below m e) ∙ sym (append-nil (w.done m)) ∙ ap (λ (ds : List Entry). w.done m ++ ds) (sym (none m (not_below m e)))

-- It is the step's first task.
goes_so : (ks : List ℕ) (c d : Course) → Phased ks c d → Goes c.net (tasks_of c.net (kinds.Phase ks)) d.net (tasks_of c.net (kinds.Phase ks))
goes_so ks c d h =
    subst (λ (w : Network). Goes c.net (tasks_of c.net (kinds.Phase ks)) w (tasks_of c.net (kinds.Phase ks))) (each_is (length c.net.scenario.managers) h.since c.net h.others ∙ sym h.net)
    (phase_joined (length c.net.scenario.managers) c.net c.net (tasks_of c.net (kinds.Phase ks)) (try_all c.net ks) (finish (try_all c.net ks)) h.since stays h.phased)

-- Behind it its scripts are finished; these are left, whose gets may wait.
pub record Finishing (ks left : List ℕ) (c d : Course) : Type 0 where
  pub goes : Goes c.net (tasks_of c.net (kinds.Phase ks)) d.net (finish (try_all c.net left))
  pub ready : Ready d.net
  pub marks : d.marks ≡ c.marks
  pub tries : Tries left c d

pub phase_told : (ks : List ℕ) (c d : Course) (done : Unit {0}) → PhaseTold ks (Ok done) c d → Finishing ks ks c d
phase_told ks c d done h = record {
  goes = passes d.net (Phase (try_all c.net ks)) [] (finish (try_all c.net ks)) (goes_so ks c d h.0) h.1.served refl;
  ready = h.1;
  marks = h.0.marks;
  tries = h.2;
}

broke_off : (ks : List ℕ) (c d : Course) (stop : Stop) → PhaseTold ks (Err stop) c d → Part {T = Unit {0}} (tasks_of c.net (kinds.Phase ks)) (Err stop) c d
broke_off ks c d stops.NoMemory h = record { left = tasks_of c.net (kinds.Phase ks); goes = goes_so ks c d h; marks = h.marks; ends = tt }
broke_off ks c d (stops.Spent m) h = record { left = tasks_of c.net (kinds.Phase ks); goes = goes_so ks c d h.0; marks = h.0.marks; ends = h.1 }

pub phase_broke : (ks : List ℕ) (r : Result (Unit {0}) Stop) (stop : Stop) (c d : Course) → IsErrAnd r (λ (y : Stop). y ≡ stop) → PhaseTold ks (Err stop) c d → Part {T = Unit {0}} (tasks_of c.net (kinds.Phase ks)) r c d
phase_broke ks (Ok x) stop c d e h = absurd e
phase_broke ks (Err y) stop c d e h = subst (λ (s : Stop). Part {T = Unit {0}} (tasks_of c.net (kinds.Phase ks)) (Err s) c d) (sym e) (broke_off ks c d stop h)
