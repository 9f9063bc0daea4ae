-- What a run keeps: the nodes with which it began, and so whether the logs belong together.
use Rattle.std.proofs.Common.{ℕ, suc, ◌≡◌, ◌+◌, List, [], ◌∷◌, refl, ap, sym, subst, ◌∙◌, arith, length}
use Rattle.std.specs.Prelude.{Option, Some, None, slice_get}
use Rattle.mq_history.specs.declared.history.History.{History}
use Rattle.mq_history.specs.declared.history.Mark.{Mark}
use Rattle.mq_history.specs.declared.scenario.Scenario.{Scenario}
use Rattle.mq_history.specs.declared.scenario.Step.{Step}
use Rattle.mq_spec_node.specs.Node.{Node}
use Rattle.mq_spec_node.specs.Replays.{opening_node}
use Rattle.mq_spec_network.specs.Apart.{apart, apart_of}
use Rattle.mq_spec_network.specs.Given.{surroundings}
use Rattle.mq_spec_network.specs.Lawful.{Stands, Went, node_begun}
use Rattle.mq_spec_network.specs.Lawful.Went.{begins, ends}
use Rattle.mq_spec_network.specs.Standing.{managers_from}
use Rattle.mq_spec_network.specs.Steps.{Goes}
use Rattle.mq_spec_network.specs.Steps.Goes.{stays, moves, serves, passes}
use Rattle.mq_spec_network.specs.Tasks.{Task}
use Rattle.mq_spec_network.specs.Turns.{Network}
use Rattle.mq_course.specs.Courses.{net_of}
use Rattle.mq_law_ran.specs.Runs.{BeginsAs}

-- ---- no step changes with what nodes began

goes_first : {w0 : Network} {all : List Task} {w : Network} {ts : List Task} → Goes w0 all w ts → (m : ℕ) → w.first m ≡ w0.first m
goes_first stays m = refl
goes_first (moves w t ts k e g mv) m = goes_first g m
goes_first (serves w ts k e g due) m = goes_first g m
goes_first (passes w t next ts g sv p) m = goes_first g m

went_first : {w0 : Network} {whole : List Step} {marks : ℕ → List Mark} {w : Network} → Went w0 whole marks w → (m : ℕ) → w.first m ≡ w0.first m
went_first begins m = refl
went_first (ends whole marks before w step went goes served) m = goes_first goes m ∙ went_first went m

pub same_begun : (s : Scenario) (gs hs : List History) (whole rest : List Step) (marks : ℕ → List Mark) (tasks : List Task) → Stands (net_of s gs) whole rest marks (net_of s hs) tasks
    → (m : ℕ) → node_begun (surroundings s m) (slice_get gs m) ≡ node_begun (surroundings s m) (slice_get hs m)
same_begun s gs hs whole rest marks tasks x m = sym (goes_first x.goes m ∙ went_first x.went m)

-- nor the scenario
goes_scenario : {w0 : Network} {all : List Task} {w : Network} {ts : List Task} → Goes w0 all w ts → w.scenario ≡ w0.scenario
goes_scenario stays = refl
goes_scenario (moves w t ts k e g mv) = goes_scenario g
goes_scenario (serves w ts k e g due) = goes_scenario g
goes_scenario (passes w t next ts g sv p) = goes_scenario g

went_scenario : {w0 : Network} {whole : List Step} {marks : ℕ → List Mark} {w : Network} → Went w0 whole marks w → w.scenario ≡ w0.scenario
went_scenario begins = refl
went_scenario (ends whole marks before w step went goes served) = goes_scenario goes ∙ went_scenario went

pub same_scenario : (w0 w : Network) (whole rest : List Step) (marks : ℕ → List Mark) (tasks : List Task) → Stands w0 whole rest marks w tasks → w.scenario ≡ w0.scenario
same_scenario w0 w whole rest marks tasks x = goes_scenario x.goes ∙ went_scenario x.went

-- ---- the managers with which it began

abbrev some_or : Node → Option Node → Node
some_or d None = d
some_or d (Some n) = n

begins_by : (s : Scenario) (m : ℕ) (h : History) (x : Option History) → node_begun (surroundings s m) x ≡ Some (opening_node (surroundings s m) h) → (g : History) × (x ≡ Some g) × (opening_node (surroundings s m) g ≡ opening_node (surroundings s m) h)
begins_by s m h None e = absurd cc
begins_by s m h (Some g) e = (g, refl, ap (some_or (opening_node (surroundings s m) h)) e)

pub begins_as : (s : Scenario) (gs hs : List History) → ((m : ℕ) → node_begun (surroundings s m) (slice_get gs m) ≡ node_begun (surroundings s m) (slice_get hs m)) → (m : ℕ) (h : History) → slice_get hs m ≡ Some h → BeginsAs s gs m h
begins_as s gs hs same m h e =
    let (g, is, begun) = begins_by s m h (slice_get gs m) (same m ∙ ap (node_begun (surroundings s m)) e) in
    record { before = g; is = is; begins = begun }

managers_same : (s : Scenario) (m : ℕ) (gs hs : List History) → length gs ≡ length hs
    → ((k : ℕ) (g h : History) → slice_get gs k ≡ Some g → slice_get hs k ≡ Some h → opening_node (surroundings s (m + k)) g ≡ opening_node (surroundings s (m + k)) h) → managers_from s m [] gs ≡ managers_from s m [] hs
managers_same s m [] [] long f = refl
managers_same s m [] (h ∷ hs) long f = absurd cc
managers_same s m (g ∷ gs) [] long f = absurd cc
managers_same s m (g ∷ gs) (h ∷ hs) long f =
    let head : opening_node (surroundings s m) g ≡ opening_node (surroundings s m) h = subst (λ (n : ℕ). opening_node (surroundings s n) g ≡ opening_node (surroundings s n) h) (omega arith) (f 0 g h refl refl) in
    let tail : managers_from s (suc m) [] gs ≡ managers_from s (suc m) [] hs =
    managers_same s (suc m) gs hs (omega (arith, long)) (λ k x y p q. subst (λ (n : ℕ). opening_node (surroundings s n) x ≡ opening_node (surroundings s n) y) (omega arith) (f (suc k) x y p q)) in
    λ i. (head i).manager ∷ tail i

pub same_apart : (s : Scenario) (gs hs : List History) → length gs ≡ length hs → ((m : ℕ) → node_begun (surroundings s m) (slice_get gs m) ≡ node_begun (surroundings s m) (slice_get hs m)) → apart s gs ≡ apart s hs
same_apart s gs hs long same = ap (apart_of s) (managers_same s 0 gs hs long (λ k g h p q.
    subst (λ (n : ℕ). opening_node (surroundings s n) g ≡ opening_node (surroundings s n) h) (omega arith)
    (ap (some_or (opening_node (surroundings s k) h)) (sym (ap (node_begun (surroundings s k)) p) ∙ same k ∙ ap (node_begun (surroundings s k)) q))))
