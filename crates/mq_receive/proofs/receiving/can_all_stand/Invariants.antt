use Rattle.std.proofs.Common.{drop}
use Rattle.std.specs.List.{AllByRecursion}
use Rattle.mq_receive.specs.Filling.{CanStand}
use Rattle.mq_receive.proofs.receiving.can_all_stand.Given as goal

abbrev pub invariant-loop-arrival : goal.invariant-loop-arrival
invariant-loop-arrival l = AllByRecursion CanStand (drop l.arrival-index l.landed) → AllByRecursion CanStand l.landed
