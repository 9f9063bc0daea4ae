use Rattle.std.proofs.Common.{◌≡◌, take}
use Rattle.std.specs.Prelude.{sum_by}
use Rattle.mq_calls.specs.declared.state.SenderSide.{SenderSide}
use Rattle.mq_redo.specs.from_core.Ties.{doubt_bytes}
use Rattle.mq_restart.proofs.aside.senders_need.Given as goal

abbrev pub invariant-loop-kept : goal.invariant-loop-kept
invariant-loop-kept l = l.sum ≡ sum_by (λ (s : SenderSide). doubt_bytes s.hardened.in_doubt) (take l.kept-index l.sides)
