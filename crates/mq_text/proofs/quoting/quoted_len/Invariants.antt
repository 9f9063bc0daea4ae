use Rattle.std.proofs.Common.{◌≡◌, ◌≤◌, ◌-◌, length, drop}
use Rattle.mq_text.specs.Quoting.{quoted_len, longer}
use Rattle.mq_text.proofs.quoting.quoted_len.Given as goal

abbrev pub invariant-reading : goal.invariant-reading
invariant-reading l = record {
  within : l.at ≤ length l.bytes;
  so_far : longer l.at (quoted_len (drop l.at l.bytes)) ≡ quoted_len l.bytes;
}

abbrev pub decreases-reading : goal.decreases-reading
decreases-reading l = length l.bytes - l.at
