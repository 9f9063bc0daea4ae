-- How far a run is: at its start, further within a step, at a step's end.
use Rattle.std.specs.Prelude.{ℕ, List, [], ◌∷◌, ◌++◌, refl}
use Rattle.std.proofs.Common.{sym, append_assoc, ◌∙◌}
use Rattle.mq_spec_node.specs.from_history.{Mark, Step}
use Rattle.mq_spec_network.specs.Turns.{Network}
use Rattle.mq_spec_network.specs.Tasks.{Task, tasks_next}
use Rattle.mq_spec_network.specs.Steps.{Goes, Served}
use Rattle.mq_spec_network.specs.Steps.Goes.{stays}
use Rattle.mq_spec_network.specs.Lawful.{Stands, mark_of}
use Rattle.mq_spec_network.specs.Lawful.Went.{begins, ends}
use Rattle.mq_spec_network.proofs.Going.{on}

-- nothing is done: also where a run ends before its first step
pub starts : (w0 : Network) → Stands w0 [] w0.scenario.steps (λ m. []) w0 (tasks_next w0 w0.scenario.steps)
starts w0 = record { before = w0; parts = refl; went = begins; goes = stays }

-- a part more of the step is done, whole or not
pub goes_on : (w0 now v : Network) (whole rest : List Step) (marks : ℕ → List Mark) (ts left : List Task) → Stands w0 whole rest marks now ts → Goes now ts v left → Stands w0 whole rest marks v left
goes_on w0 now v whole rest marks ts left h g = record { before = h.before; parts = h.parts; went = h.went; goes = on h.goes g }

-- it is whole, and noted; the next begins
pub marked : (w0 now : Network) (whole rest : List Step) (step : Step) (marks : ℕ → List Mark) → Stands w0 whole (step ∷ rest) marks now [] → Served now
    → Stands w0 (whole ++ step ∷ []) rest (λ m. marks m ++ mark_of now step m ∷ []) now (tasks_next now rest)
marked w0 now whole rest step marks h s = record {
  before = now;
  parts = h.parts ∙ sym (append_assoc whole (step ∷ []) rest);
  went = ends whole marks h.before now step h.went h.goes s;
  goes = stays;
}
