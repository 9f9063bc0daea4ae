use Rattle.std.proofs.Common.{◌-◌}
use Rattle.mq_nodes.proofs.TurnLaws.{Handling}
use Rattle.mq_steps.proofs.turns.handle.Given as goal

abbrev pub invariant-loop : goal.invariant-loop
invariant-loop g l = Handling l.rules l.turns (l.turns - l.counter) (g.N.Nodes.course l.initial.nodes) (g.N.Nodes.course l.nodes)
