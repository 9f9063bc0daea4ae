use Rattle.mq_nodes.proofs.StepLaws.{asked}
use Rattle.mq_steps.proofs.steps.crash_once.Goals as goal

pub returns : goal.returns
returns g c = asked _ _ _ _ (g.N.Nodes.course c.args.nodes.now) (g.N.Nodes.course c.crash.new.self) c.requires.ready c.crash.ensures
