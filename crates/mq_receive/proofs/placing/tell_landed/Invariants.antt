use Rattle.std.proofs.Common.{◌≡◌, ◌≤◌, ◌+◌, ◌*◌, ◌++◌, drop}
use Rattle.std.specs.Prelude.{flat_map}
use Rattle.mq_core.specs.Writes.{arrival_dids}
use Rattle.mq_receive.proofs.placing.tell_landed.Given as goal

abbrev pub invariant-loop-arrival : goal.invariant-loop-arrival
invariant-loop-arrival l = record {
  dids : l.effects.dids ++ flat_map arrival_dids (drop l.arrival-index l.landed) ≡ l.fn.effects.dids ++ flat_map arrival_dids l.landed;
  room : l.fn.effects.room ≤ l.effects.room + 2 * l.arrival-index;
}
