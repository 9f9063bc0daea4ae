use Rattle.std.proofs.Common.{◌≡◌, length}
use Rattle.mq_rules_text.specs.Tables.{entries_read}
use Rattle.mq_rules_text.proofs.reading.entries_read.Given as goal

abbrev pub invariant-reading : goal.invariant-reading
invariant-reading l = entries_read l.own l.lines l.initial.reading ≡ entries_read l.own l.rest l.reading

abbrev pub decreases-reading : goal.decreases-reading
decreases-reading l = length l.rest
