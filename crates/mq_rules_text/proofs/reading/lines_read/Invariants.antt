use Rattle.std.proofs.Common.{◌≡◌, length}
use Rattle.mq_rules_text.specs.Tables.{lines_read, nothing_read}
use Rattle.mq_rules_text.proofs.reading.lines_read.Given as goal

abbrev pub invariant-reading : goal.invariant-reading
invariant-reading l = lines_read l.own l.unfinished l.last l.lines nothing_read ≡ lines_read l.own l.unfinished l.last l.rest l.reading

abbrev pub decreases-reading : goal.decreases-reading
decreases-reading l = length l.rest
