use Rattle.std.proofs.Common.{◌≡◌, ◌++◌, take, drop}
use Rattle.std.specs.Prelude.{map}
use Rattle.mq_spec_node.specs.Deeds.{end_at_rest}
use Rattle.mq_own.proofs.own.rest_ends.Given as goal

abbrev pub invariant-loop-at : goal.invariant-loop-at
invariant-loop-at l = l.ends ≡ map end_at_rest (take l.at l.fn.ends) ++ drop l.at l.fn.ends
