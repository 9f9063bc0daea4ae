use Rattle.mq_nodes.proofs.PumpLaws.{InTimeouts}
use Rattle.mq_steps.specs.Counts.{Fewer}
use Rattle.mq_steps.proofs.pumping.timeouts.Given as goal

abbrev pub invariant-loop-cable : goal.invariant-loop-cable
invariant-loop-cable g l = record {
  told : InTimeouts l.cable l.most l.left l.cable-end (g.N.Nodes.course l.initial.nodes) (g.N.Nodes.course l.nodes);
  counted : Fewer l.most l.left (g.N.Nodes.course l.initial.nodes).net (g.N.Nodes.course l.nodes).net;
}
