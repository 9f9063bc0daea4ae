use Rattle.std.proofs.Common.{◌≤◌, length, drop}
use Rattle.mq_rules.specs.Patterns.{AreLike}
use Rattle.mq_rules.proofs.pattern.is_like.Given as goal

abbrev pub invariant-reading : goal.invariant-reading
invariant-reading l = record {
  within : l.at ≤ length l.pattern;
  like : AreLike l.places (drop l.at l.pattern) l.text;
}

abbrev pub decreases-reading : goal.decreases-reading
decreases-reading l = l.at
