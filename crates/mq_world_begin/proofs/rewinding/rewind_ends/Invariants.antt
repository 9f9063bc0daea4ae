use Rattle.std.proofs.Common.{◌≡◌, ◌++◌, take, drop}
use Rattle.std.specs.Prelude.{map}
use Rattle.mq_world_begin.specs.Rested.{end_given}
use Rattle.mq_world_begin.proofs.rewinding.rewind_ends.Given as goal

abbrev pub invariant-loop-at : goal.invariant-loop-at
invariant-loop-at l = l.ends ≡ map end_given (take l.at l.fn.ends) ++ drop l.at l.fn.ends
