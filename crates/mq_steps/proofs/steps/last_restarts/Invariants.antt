use Rattle.mq_nodes.proofs.StepLaws.{Restarting}
use Rattle.mq_steps.proofs.steps.last_restarts.Given as goal

abbrev pub invariant-loop-manager : goal.invariant-loop-manager
invariant-loop-manager g l = Restarting l.manager l.manager-end (g.N.Nodes.course l.initial.nodes) (g.N.Nodes.course l.nodes)
