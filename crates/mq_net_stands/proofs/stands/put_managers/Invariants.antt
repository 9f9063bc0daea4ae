use Rattle.std.proofs.Common.{◌≡◌, ◌++◌, take}
use Rattle.std.specs.List.{flat_map}
use Rattle.mq_net_stands.specs.Stands.{manager_text}
use Rattle.mq_net_stands.proofs.stands.put_managers.Given as goal

abbrev pub invariant-loop-manager : goal.invariant-loop-manager
invariant-loop-manager l = l.out ≡ l.fn.out ++ flat_map manager_text (take l.manager-index l.managers)
