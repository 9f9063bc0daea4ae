use Rattle.std.proofs.Common.{◌≡◌, ◌++◌, take, drop}
use Rattle.std.specs.Prelude.{map}
use Rattle.mq_calls.specs.Words.{stale_if, has_step}
use Rattle.mq_calls.specs.declared.state.Handle.{Handle}
use Rattle.mq_handles.proofs.seat.stale_all.Given as goal

abbrev pub invariant-loop-at : goal.invariant-loop-at
invariant-loop-at l = l.handles ≡ map (λ (h : Handle). stale_if (has_step l.step h) h) (take l.at l.fn.handles) ++ drop l.at l.fn.handles
