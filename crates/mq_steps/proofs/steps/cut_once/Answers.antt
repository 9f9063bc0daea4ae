use Rattle.mq_nodes.proofs.StepLaws.{asked}
use Rattle.mq_steps.proofs.steps.cut_once.Goals as goal

pub returns : goal.returns
returns g c = asked _ _ _ _ (g.N.Nodes.course c.args.nodes.now) (g.N.Nodes.course c.cut.new.self) c.requires.ready c.cut.ensures
