use Rattle.mq_nodes.specs.Carried.{IsCarriedSoFar}
use Rattle.mq_nodes.proofs.StepLaws.{Stepping}
use Rattle.mq_steps.proofs.steps.do_steps.Given as goal

abbrev pub invariant-loop-step : goal.invariant-loop-step
invariant-loop-step g l = Stepping l.step-index (g.N.Nodes.course l.initial.nodes) (g.N.Nodes.course l.nodes) × IsCarriedSoFar (g.N.Nodes.course l.nodes)
