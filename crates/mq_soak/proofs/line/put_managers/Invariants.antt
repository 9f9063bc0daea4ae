use Rattle.std.proofs.Common.{◌≡◌, ◌++◌, take}
use Rattle.std.specs.List.{flat_map}
use Rattle.mq_soak.specs.Line.{manager_part}
use Rattle.mq_soak.proofs.line.put_managers.Given as goal

abbrev pub invariant-loop-manager : goal.invariant-loop-manager
invariant-loop-manager l = l.out ≡ l.fn.out ++ flat_map manager_part (take l.manager-index l.managers)
