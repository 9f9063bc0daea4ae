use Rattle.std.proofs.Common.{drop}
use Rattle.mq_spec_network.specs.Tasks.{obey_all}
use Rattle.mq_nodes.specs.Told.{Onward}
use Rattle.mq_steps.proofs.asks.obey_all.Given as goal

abbrev pub invariant-loop-command : goal.invariant-loop-command
invariant-loop-command g l = Onward (obey_all l.manager l.commands) (obey_all l.manager (drop l.command-index l.commands)) (g.N.Nodes.course l.initial.nodes) (g.N.Nodes.course l.nodes)
