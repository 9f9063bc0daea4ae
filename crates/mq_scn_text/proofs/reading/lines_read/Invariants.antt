use Rattle.std.proofs.Common.{◌≡◌, length}
use Rattle.mq_text.specs.Lines.{lines_of}
use Rattle.mq_scn_text.specs.Reading.{lines_read, nothing_read}
use Rattle.mq_scn_text.proofs.reading.lines_read.Given as goal

abbrev pub invariant-reading : goal.invariant-reading
invariant-reading l = lines_read (lines_of l.text) nothing_read ≡ lines_read (lines_of l.rest) l.reading

abbrev pub decreases-reading : goal.decreases-reading
decreases-reading l = length l.rest
