use Rattle.mq_steps.proofs.DoingLaws.{idle_handle}
use Rattle.mq_steps.proofs.steps.do_step.Goals as goal

pub returns-in-Handle-clause-idle : goal.returns-in-Handle-clause-idle
returns-in-Handle-clause-idle g c =
    let old = g.N.Nodes.course c.args.nodes.now in
    let new = g.N.Nodes.course c.handle.new.nodes in
    idle_handle c.args.step.now _ _ _ c.handle.result c.args.scenario.now old new c.in-Handle.is c.requires.same c.handle.ensures.told c.handle.ensures.idle
