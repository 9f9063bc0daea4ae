use Rattle.std.proofs.Common.{◌≡◌, ◌+◌, drop}
use Rattle.std.specs.List.{AllByRecursion}
use Rattle.mq_receive.specs.Filling.{CanStand, adds_size}
use Rattle.mq_receive.proofs.receiving.batch_need.Given as goal

abbrev pub invariant-loop-arrival : goal.invariant-loop-arrival
invariant-loop-arrival l = record {
  sum : l.sum + adds_size (drop l.arrival-index l.landed) ≡ 50 + adds_size l.landed;
  can : AllByRecursion CanStand (drop l.arrival-index l.landed);
}
