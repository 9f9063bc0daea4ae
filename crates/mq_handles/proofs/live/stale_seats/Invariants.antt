use Rattle.std.proofs.Common.{◌≡◌, ◌++◌, take, drop}
use Rattle.std.specs.Prelude.{map}
use Rattle.mq_calls.specs.Words.{made_stale}
use Rattle.mq_handles.proofs.live.stale_seats.Given as goal

abbrev pub invariant-loop-at : goal.invariant-loop-at
invariant-loop-at l = l.seats ≡ map (made_stale l.step) (take l.at l.fn.seats) ++ drop l.at l.fn.seats
