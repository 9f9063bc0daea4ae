use Rattle.mq_nodes.proofs.StepLaws.{asked}
use Rattle.mq_steps.proofs.steps.command_once.Goals as goal

pub returns : goal.returns
returns g c = asked _ _ _ _ (g.N.Nodes.course c.args.nodes.now) (g.N.Nodes.course c.obey.new.self) c.requires.ready c.obey.ensures
