use Rattle.std.proofs.Common.{◌≡◌, ◌++◌, take}
use Rattle.std.specs.List.{flat_map}
use Rattle.mq_net_apart.specs.Opened.{all_object}
use Rattle.mq_net_apart.proofs.rows.put_all_objects.Given as goal

abbrev pub invariant-objects : goal.invariant-objects
invariant-objects l = l.out ≡ l.fn.out ++ flat_map (all_object l.history) (take l.object-index l.objects)
