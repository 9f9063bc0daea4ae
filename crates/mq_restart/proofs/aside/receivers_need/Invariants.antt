use Rattle.std.proofs.Common.{◌≡◌, take}
use Rattle.std.specs.Prelude.{sum_by}
use Rattle.mq_calls.specs.declared.state.ReceiverSide.{ReceiverSide}
use Rattle.mq_redo.specs.from_core.Ties.{session_bytes}
use Rattle.mq_restart.proofs.aside.receivers_need.Given as goal

abbrev pub invariant-loop-kept : goal.invariant-loop-kept
invariant-loop-kept l = l.sum ≡ sum_by (λ (r : ReceiverSide). session_bytes r.hardened.closed) (take l.kept-index l.sides)
