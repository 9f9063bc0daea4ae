use Rattle.std.proofs.Common.{◌≡◌, ◌+◌, true, length}
use Rattle.mq_log_bench.proofs.measure.append_all.Given as goal

abbrev pub invariant-loop-done : goal.invariant-loop-done
invariant-loop-done g l = (l.log.live ≡ true) × (length l.log.bodies ≡ length l.fn.log.bodies + l.done)
