use Rattle.std.proofs.Common.{◌≡◌, ◌≤◌, take}
use Rattle.std.specs.Prelude.{count_by}
use Rattle.mq_net_report.specs.Steps.{is_turn}
use Rattle.mq_net_report.proofs.steps.count_turns.Given as goal

abbrev pub invariant-counting : goal.invariant-counting
invariant-counting l = record {
  within : l.turns ≤ l.entry-index;
  is : l.turns ≡ count_by is_turn (take l.entry-index l.entries);
}
