use Rattle.std.proofs.Common.{◌≤◌, ◌+◌}
use Rattle.mq_index_bench.proofs.measure.turn_over.Given as goal

abbrev pub invariant-loop-turn : goal.invariant-loop-turn
invariant-loop-turn g l = g.Q.Queue.arrivals l.queue ≤ 400000 + l.turn
