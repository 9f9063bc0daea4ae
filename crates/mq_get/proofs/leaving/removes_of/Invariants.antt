use Rattle.std.proofs.Common.{◌≡◌, ◌++◌, drop}
use Rattle.mq_get.specs.Leaving.{removes_met}
use Rattle.mq_get.proofs.leaving.removes_of.Given as goal

abbrev pub invariant-loop-met : goal.invariant-loop-met
invariant-loop-met l = l.removes ++ removes_met l.queue (drop l.met-index l.mets) ≡ removes_met l.queue l.mets
