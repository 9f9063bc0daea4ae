use Rattle.std.proofs.Common.{length}
use Rattle.mq_frame.proofs.Streams.{Front}
use Rattle.mq_frame.specs.Reading.{IsBytes}
use Rattle.mq_frame.proofs.decoder.frames_at.Given as goal

abbrev pub invariant-reading : goal.invariant-reading
invariant-reading l = record { front : Front l.bytes l.frames l.rest; bytes : IsBytes l.rest }

abbrev pub decreases-reading : goal.decreases-reading
decreases-reading l = length l.rest
