use Rattle.std.proofs.Common.{◌≡◌, ◌++◌, take, drop}
use Rattle.std.specs.Prelude.{map}
use Rattle.mq_calls.specs.Words.{off_list}
use Rattle.mq_receive.proofs.doubts.strike_all.Given as goal

abbrev pub invariant-loop-at : goal.invariant-loop-at
invariant-loop-at l = l.sides ≡ map (off_list l.ident) (take l.at l.fn.sides) ++ drop l.at l.fn.sides
