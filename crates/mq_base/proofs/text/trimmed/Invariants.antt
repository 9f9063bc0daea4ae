use Rattle.std.proofs.Common.{◌≡◌, ◌≤◌, length, take}
use Rattle.mq_base.specs.Name.{trimmed}
use Rattle.mq_base.proofs.text.trimmed.Given as goal

abbrev pub invariant-trimming : goal.invariant-trimming
invariant-trimming l = record {
  within : l.len ≤ length l.field;
  same : trimmed l.field ≡ trimmed (take l.len l.field);
}

abbrev pub decreases-trimming : goal.decreases-trimming
decreases-trimming l = l.len
