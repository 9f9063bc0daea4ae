use Rattle.std.proofs.Common.{◌-◌}
use Rattle.mq_nodes.proofs.TurnLaws.{Serving}
use Rattle.mq_steps.proofs.turns.serve.Given as goal

abbrev pub invariant-loop : goal.invariant-loop
invariant-loop g l = Serving l.monitor l.turns (l.turns - l.counter) (g.N.Nodes.course l.initial.nodes) (g.N.Nodes.course l.nodes)
