use Rattle.std.proofs.Common.{◌≡◌, drop}
use Rattle.mq_frame.specs.Reading.{fixed_at}
use Rattle.mq_frame.proofs.reading.fixed_at.Given as goal

abbrev pub invariant-loop-byte : goal.invariant-loop-byte
invariant-loop-byte l = fixed_at (drop l.byte-index l.wanted) l.rest ≡ fixed_at l.wanted l.bytes
