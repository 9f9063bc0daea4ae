-- One turn of a monitor, with the script that it begins.
use Rattle.std.specs.Prelude.{◌≡◌, ℕ, suc, Bool, true, false, [], ◌∷◌, Some, Result, Ok, Err, slice_get}
use Rattle.mq_history.specs.declared.scenario.MonitorLine.{MonitorLine}
use Rattle.mq_spec_network.specs.Turns.{node_at}
use Rattle.mq_spec_network.specs.Tasks.Task.{Serve}
use Rattle.mq_spec_network.specs.Steps.{serves_nothing}
use Rattle.mq_nodes.specs.declared.nodes.Stop.{Stop}
use Rattle.mq_nodes.specs.Course.{Course}
use Rattle.mq_nodes.specs.Told.{Onward, Part}

-- it got a message, or there was none
abbrev pub ServedBy : ℕ → MonitorLine → Result Bool Stop → Course → Course → Type 0
ServedBy k l (Ok true) c d = (n : ℕ) → Onward (Serve k l (suc n) ∷ []) (Serve k l n ∷ []) c d
ServedBy k l (Ok false) c d = (d ≡ c) × (serves_nothing k (node_at c.net l.manager) ≡ true)
ServedBy k l (Err stop) c d = (n : ℕ) → Part {T = Bool} (Serve k l (suc n) ∷ []) (Err stop) c d

abbrev pub ServedTold : ℕ → Result Bool Stop → Course → Course → Type 0
ServedTold k r c d = (l : MonitorLine) → slice_get c.net.scenario.monitors k ≡ Some l → ServedBy k l r c d
