use Rattle.std.proofs.Common.{◌≡◌, ◌≤◌, ◌-◌, ◌++◌, length, drop}
use Rattle.mq_text.specs.Quoting.{undoubled}
use Rattle.mq_text.proofs.quoting.undoubled.Given as goal

abbrev pub invariant-reading : goal.invariant-reading
invariant-reading l = record {
  within : l.at ≤ length l.bytes;
  so_far : l.text ++ undoubled (drop l.at l.bytes) ≡ undoubled l.bytes;
}

abbrev pub decreases-reading : goal.decreases-reading
decreases-reading l = length l.bytes - l.at
