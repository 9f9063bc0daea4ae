use Rattle.std.proofs.Common.{◌≤◌}
use Rattle.mq_index_bench.proofs.measure.fill.Given as goal

abbrev pub invariant-loop-number : goal.invariant-loop-number
invariant-loop-number g l = g.Q.Queue.arrivals l.queue ≤ l.number
