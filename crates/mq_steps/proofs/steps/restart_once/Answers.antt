use Rattle.mq_nodes.proofs.StepLaws.{asked_once}
use Rattle.mq_steps.proofs.DoingLaws.{restarted_once}
use Rattle.mq_steps.proofs.PartLaws.{part_breaks}
use Rattle.mq_steps.proofs.steps.restart_once.Goals as goal

pub returns-in_err-restart : goal.returns-in_err-restart
returns-in_err-restart g c =
    let old = g.N.Nodes.course c.args.nodes.now in
    let new = g.N.Nodes.course c.restart.new.self in
    part_breaks _ _ _ old new c.from_residual.ensures.1 (asked_once c.args.manager _ old new c.requires.ready c.in_err-restart.ensures)

pub returns : goal.returns
returns g c =
    let old = g.N.Nodes.course c.args.nodes.now in
    let new = g.N.Nodes.course c.restart.new.self in
    restarted_once c.args.manager _ old new (asked_once c.args.manager _ old new c.requires.ready c.in_ok-restart.ensures)
