use Rattle.std.proofs.Common.{◌≡◌, take, length}
use Rattle.std.specs.Prelude.{sum_by}
use Rattle.mq_calls.specs.Recovery.{listed}
use Rattle.mq_calls.specs.declared.state.SenderSide.{SenderSide}
use Rattle.mq_rebuild.proofs.sides.all_listed.Given as goal

abbrev pub invariant-loop-side : goal.invariant-loop-side
invariant-loop-side l = l.sum ≡ sum_by (λ (s : SenderSide). length (listed s.hardened.in_doubt)) (take l.side-index l.sides)
