use Rattle.std.proofs.Common.{◌≡◌, length}
use Rattle.std.specs.Prelude.{All}
use Rattle.mq_world.specs.Starting.{begun_script}
use Rattle.mq_world.proofs.starting.scripts_of.Given as goal

abbrev pub invariant-loop-at : goal.invariant-loop-at
invariant-loop-at l = record {
  all : length l.scripts ≡ l.at;
  each : All (λ c. c ≡ begun_script) l.scripts;
}
