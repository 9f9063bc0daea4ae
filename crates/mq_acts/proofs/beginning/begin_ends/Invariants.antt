use Rattle.std.proofs.Common.{◌≡◌, ◌++◌, take, drop}
use Rattle.std.specs.Prelude.{map}
use Rattle.mq_spec_node.specs.Words.{end_begun}
use Rattle.mq_acts.proofs.beginning.begin_ends.Given as goal

abbrev pub invariant-loop-at : goal.invariant-loop-at
invariant-loop-at g l = l.ends ≡ map (end_begun l.manager.plain) (take l.at l.fn.ends) ++ drop l.at l.fn.ends
