use Rattle.mq_nodes.proofs.PumpLaws.{InRound}
use Rattle.mq_spec_network.specs.Tasks.Slot.{Sends}
use Rattle.mq_steps.specs.Counts.{Fewer}
use Rattle.mq_steps.proofs.pumping.round.Given as goal

abbrev pub invariant-loop-cable : goal.invariant-loop-cable
invariant-loop-cable g l = record {
  told : InRound Sends l.cable l.cable l.cable l.most l.left l.cable-end (g.N.Nodes.course l.initial.nodes) (g.N.Nodes.course l.nodes);
  counted : Fewer l.most l.left (g.N.Nodes.course l.initial.nodes).net (g.N.Nodes.course l.nodes).net;
}
