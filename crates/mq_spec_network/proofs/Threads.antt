-- What each manager did in a phase, manager by manager, is a phase: no order between managers is needed.
use Rattle.std.specs.Prelude.{◌≡◌, ◌<◌, ◌≤◌, ℕ, zero, suc, ◌==◌, true, false, List, [], ◌∷◌, refl}
use Rattle.std.proofs.Common.{subst, sym, arith, inl, inr, ◌∙◌}
use Rattle.std.proofs.lemmas.Bool.Decides.{nat_tests}
use Rattle.mq_spec_node.specs.from_history.{Entry}
use Rattle.mq_spec_network.specs.Turns.{Network, does}
use Rattle.mq_spec_network.specs.Tasks.{Task, Trying}
use Rattle.mq_spec_network.specs.Tasks.Task.{Phase}
use Rattle.mq_spec_network.specs.Steps.{Goes, AllInPhase}
use Rattle.mq_spec_network.specs.Steps.Goes.{moves, serves}
use Rattle.mq_spec_network.proofs.Going.{does_none, does_twice, elsewhere, here}

itself : (m : ℕ) → (m == m) ≡ true
itself m = grind (arith, nat_tests)

another : (m n : ℕ) → n < m → (m == n) ≡ false
another m n lt = grind (arith, nat_tests)

pub phase_at : (w0 w : Network) (all : List Task) (ts : List Trying) (more : List Task) (m : ℕ) (es : List Entry)
    → Goes w0 all w (Phase ts ∷ more) → AllInPhase ts m (w.done m) es → Goes w0 all (does m es w) (Phase ts ∷ more)
phase_at w0 w all ts more m [] g h = subst (λ (v : Network). Goes w0 all v (Phase ts ∷ more)) (sym (does_none m w)) g
phase_at w0 w all ts more m (e ∷ es) g ((inl one), rest) =
    subst (λ (v : Network). Goes w0 all v (Phase ts ∷ more)) (does_twice m (e ∷ []) es w)
    (phase_at w0 (does m (e ∷ []) w) all ts more m es (moves w (Phase ts) more m e g one) (subst (λ (d : List Entry). AllInPhase ts m d es) (sym (here m (e ∷ []) w.done (itself m))) rest))
phase_at w0 w all ts more m (e ∷ es) g ((inr due), rest) =
    subst (λ (v : Network). Goes w0 all v (Phase ts ∷ more)) (does_twice m (e ∷ []) es w)
    (phase_at w0 (does m (e ∷ []) w) all ts more m es (serves w (Phase ts ∷ more) m e g due) (subst (λ (d : List Entry). AllInPhase ts m d es) (sym (here m (e ∷ []) w.done (itself m))) rest))

-- after the joins: the first managers, one after the other
abbrev pub does_each : ℕ → (ℕ → List Entry) → Network → Network
does_each zero es w = w
does_each (suc n) es w = does n (es n) (does_each n es w)

untouched : (n m : ℕ) (es : ℕ → List Entry) (w : Network) → n ≤ m → (does_each n es w).done m ≡ w.done m
untouched zero m es w le = refl
untouched (suc n) m es w le = elsewhere n m (es n) (does_each n es w).done (another m n (omega arith)) ∙ untouched n m es w (omega arith)

pub phase_joined : (n : ℕ) (w0 w : Network) (all : List Task) (ts : List Trying) (more : List Task) (es : ℕ → List Entry)
    → Goes w0 all w (Phase ts ∷ more) → ((m : ℕ) → m < n → AllInPhase ts m (w.done m) (es m)) → Goes w0 all (does_each n es w) (Phase ts ∷ more)
phase_joined zero w0 w all ts more es g h = g
phase_joined (suc n) w0 w all ts more es g h =
    phase_at w0 (does_each n es w) all ts more n (es n) (phase_joined n w0 w all ts more es g (λ m lt. h m (omega arith)))
    (subst (λ (d : List Entry). AllInPhase ts n d (es n)) (sym (untouched n n es w (omega arith))) (h n (omega arith)))
