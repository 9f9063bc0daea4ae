use Rattle.std.proofs.Common.{◌≡◌}
use Rattle.std.specs.Prelude.{All, vec_len}
use Rattle.mq_world.specs.Starting.{IsRoom}
use Rattle.mq_world.proofs.starting.rooms_of.Given as goal

abbrev pub invariant-loop-at : goal.invariant-loop-at
invariant-loop-at l = record {
  all : vec_len l.rooms ≡ l.at;
  each : All (IsRoom l.steps) l.rooms.items;
}
