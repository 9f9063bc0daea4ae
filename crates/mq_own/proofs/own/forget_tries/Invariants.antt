use Rattle.std.proofs.Common.{◌≡◌, ◌++◌, take, drop}
use Rattle.std.specs.Prelude.{map}
use Rattle.mq_own.specs.Views.{forgetting}
use Rattle.mq_own.proofs.own.forget_tries.Given as goal

abbrev pub invariant-loop-at : goal.invariant-loop-at
invariant-loop-at l = l.handlers ≡ map (forgetting l.delta) (take l.at l.fn.handlers) ++ drop l.at l.fn.handlers
