use Rattle.std.proofs.Common.{◌≡◌, ◌++◌, take}
use Rattle.std.specs.List.{flat_map}
use Rattle.mq_net_stands.specs.Stands.{cable_text}
use Rattle.mq_net_stands.proofs.stands.put_cables.Given as goal

abbrev pub invariant-loop-cable : goal.invariant-loop-cable
invariant-loop-cable l = l.out ≡ l.fn.out ++ flat_map cable_text (take l.cable-index l.cables)
