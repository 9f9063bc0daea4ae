use Rattle.std.proofs.Common.{◌≡◌, ◌++◌, drop, map}
use Rattle.mq_run.specs.Leaves.{manager_stands}
use Rattle.mq_run.proofs.standing.put_managers.Given as goal

abbrev pub invariant-loop-manager : goal.invariant-loop-manager
invariant-loop-manager g l = l.managers ++ map manager_stands (drop l.manager-index l.fn.rested.managers) ≡ map manager_stands l.fn.rested.managers
