use Rattle.std.proofs.Common.{◌≡◌, length}
use Rattle.mq_rules_text.specs.Entries.{settled, default_control}
use Rattle.mq_rules_text.proofs.control.settled.Given as goal

abbrev pub invariant-reading : goal.invariant-reading
invariant-reading l = settled l.own l.pairs default_control ≡ settled l.own l.rest l.control

abbrev pub decreases-reading : goal.decreases-reading
decreases-reading l = length l.rest
