use Rattle.std.proofs.Common.{◌≡◌, ◌++◌, take}
use Rattle.std.specs.List.{flat_map}
use Rattle.mq_net_stands.specs.Stands.{ledger_object}
use Rattle.mq_net_stands.proofs.stands.put_ledger_objects.Given as goal

abbrev pub invariant-loop-object : goal.invariant-loop-object
invariant-loop-object l = l.out ≡ l.fn.out ++ flat_map (ledger_object l.places) (take l.object-index l.objects)
