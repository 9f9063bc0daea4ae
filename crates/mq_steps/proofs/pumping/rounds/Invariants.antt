use Rattle.mq_nodes.proofs.PumpLaws.{Pumping}
use Rattle.mq_steps.specs.Counts.{Fewer}
use Rattle.mq_steps.proofs.pumping.rounds.Given as goal

abbrev pub invariant-loop : goal.invariant-loop
invariant-loop g l = record {
  told : Pumping l.turns l.counter l.left (g.N.Nodes.course l.initial.nodes) (g.N.Nodes.course l.nodes);
  counted : Fewer l.turns l.left (g.N.Nodes.course l.initial.nodes).net (g.N.Nodes.course l.nodes).net;
}
