use Rattle.std.proofs.Common.{◌<◌, ℕ, ◌≡◌}
use Rattle.std.specs.Prelude.{Some, slice_get}
use Rattle.mq_acts.specs.from_events.Events.{MayAct}
use Rattle.mq_acts.specs.from_events.States.{NodeState}
use Rattle.mq_shared.proofs.phasing.phase_ends.Given as goal

abbrev pub invariant-loop-at : goal.invariant-loop-at
invariant-loop-at g l = record { may : (m : ℕ) (n : NodeState) → m < l.at → slice_get l.nodes m ≡ Some n → MayAct n }
