use Rattle.mq_steps.proofs.PhaseLaws.{Phasing}
use Rattle.mq_steps.proofs.phases.phase.Given as goal

abbrev pub invariant-loop-script : goal.invariant-loop-script
invariant-loop-script g l = Phasing l.scripts l.script-index (g.N.Nodes.course l.fn.nodes) (g.N.Nodes.course l.nodes)
