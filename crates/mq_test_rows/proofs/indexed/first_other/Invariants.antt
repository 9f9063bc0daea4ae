use Rattle.std.proofs.Common.{◌≤◌}
use Rattle.mq_test_rows.proofs.indexed.first_other.Given as goal

abbrev pub invariant-loop-turn : goal.invariant-loop-turn
invariant-loop-turn g l = (g.P.Queue.arrivals l.plain ≤ l.turn) × (g.Q.Queue.arrivals l.indexed ≤ l.turn)
