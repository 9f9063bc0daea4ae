use Rattle.std.proofs.Common.{◌-◌, ◌<◌, length}
use Rattle.mq_log.specs.Open.{Front}
use Rattle.mq_log.proofs.scan.scan.Given as goal

abbrev pub invariant-loop-at : goal.invariant-loop-at
invariant-loop-at l = record { inside : l.at < length l.bytes; front : Front l.at l.bytes }

abbrev pub decreases-loop-at : goal.decreases-loop-at
decreases-loop-at l = length l.bytes - l.at
