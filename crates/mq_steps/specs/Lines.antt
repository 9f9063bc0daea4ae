-- What lines of a script tell: how many a RUN does; that the others keep theirs; and what is left of one behind a phase.
use Rattle.std.specs.Prelude.{◌≡◌, ℕ, List, [], ◌∷◌, Option, Some, None, Result, Ok, Err}
use Rattle.mq_history.specs.declared.scenario.ScriptPart.{ScriptPart}
use Rattle.mq_spec_network.specs.Tasks.{Task}
use Rattle.mq_spec_network.specs.Tasks.Task.{Script}
use Rattle.mq_nodes.specs.declared.nodes.Stop.{Stop}
use Rattle.mq_nodes.specs.Course.{Course}
use Rattle.mq_nodes.specs.Told.{Alone, IsTried, Part}

-- so many, or all
abbrev pub number_or : Option ℕ → ℕ → ℕ
number_or None all = all
number_or (Some n) all = n

-- the others keep their lines, and the deadlines of their gets
abbrev pub AloneIf : {T : Type 0} → ℕ → Result T Stop → Course → Course → Type 0
AloneIf k (Ok x) c d = Alone k c d
AloneIf k (Err stop) c d = Unit {0}

abbrev pub LinesTold : ℕ → List Task → Result (Unit {0}) Stop → Course → Course → Type 0
LinesTold k ts r c d = Part ts r c d × AloneIf k r c d

-- All that is left of a script, whose next line may have been tried at a moment.
abbrev pub FinishTold : ℕ → Option ℕ → Option ScriptPart → Result (Unit {0}) Stop → Course → Course → Type 0
FinishTold k tried None r c d = Unit {0}
FinishTold k tried (Some p) r c d = LinesTold k (Script k p tried None ∷ []) r c d

abbrev pub FinishRan : ℕ → Option ScriptPart → Result (Unit {0}) Stop → Course → Course → Type 0
FinishRan k o r c d = (tried : Option ℕ) → ((p : ScriptPart) → o ≡ Some p → IsTried k p tried c) → FinishTold k tried o r c d
