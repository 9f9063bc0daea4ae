use Rattle.std.proofs.Common.{◌≡◌, ◌≤◌, ◌-◌, ◌++◌, length, drop}
use Rattle.mq_sc_parse.specs.Splitting.{items_from}
use Rattle.mq_sc_parse.proofs.splitting.items_of.Given as goal

abbrev pub invariant-splitting : goal.invariant-splitting
invariant-splitting l = record {
  within : l.at ≤ length l.tokens;
  so_far : l.items ++ items_from (drop l.at l.tokens) 0 ≡ items_from l.tokens 0;
}

abbrev pub decreases-splitting : goal.decreases-splitting
decreases-splitting l = length l.tokens - l.at
