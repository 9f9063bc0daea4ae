use Rattle.mq_nodes.proofs.ClockLaws.{Clocking}
use Rattle.mq_steps.proofs.asks.clocks.Given as goal

abbrev pub invariant-loop-manager : goal.invariant-loop-manager
invariant-loop-manager g l = Clocking l.ms l.manager l.manager-end (g.N.Nodes.course l.initial.nodes) (g.N.Nodes.course l.nodes)
