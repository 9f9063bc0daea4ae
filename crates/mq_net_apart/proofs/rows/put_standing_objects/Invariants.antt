use Rattle.std.proofs.Common.{◌≡◌, ◌+◌, ◌++◌, take}
use Rattle.std.specs.List.{flat_map}
use Rattle.mq_spec_network.specs.Standing.{opening_managers}
use Rattle.mq_net_apart.specs.Opened.{standing_object}
use Rattle.mq_net_apart.proofs.rows.put_standing_objects.Given as goal

abbrev pub invariant-objects : goal.invariant-objects
invariant-objects l = l.out ≡ l.fn.out ++ flat_map (standing_object l.scenario (opening_managers l.scenario l.histories) (l.at + 1) l.history) (take l.object-index l.objects)
