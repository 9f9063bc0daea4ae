use Rattle.mq_steps.proofs.LinesLaws.{Lining}
use Rattle.mq_steps.proofs.lines.lines.Given as goal

abbrev pub invariant-loop : goal.invariant-loop
invariant-loop g l = Lining l.script l.part l.most l.counter (g.N.Nodes.course l.initial.nodes) (g.N.Nodes.course l.nodes)
