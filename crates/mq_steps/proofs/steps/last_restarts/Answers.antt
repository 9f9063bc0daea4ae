use Rattle.mq_nodes.proofs.StepLaws.{restarts_begin, restarts_break, restarts_go_on}
use Rattle.mq_steps.proofs.DoingLaws.{manager_there}
use Rattle.mq_steps.proofs.PartLaws.{part_breaks}
use Rattle.mq_steps.proofs.steps.last_restarts.Goals as goal

pub loop-manager-init : goal.loop-manager-init
loop-manager-init g c = restarts_begin c.managers-manager-end.result (g.N.Nodes.course c.args.nodes.now) c.requires.ready c.managers-manager-end.ensures

pub restart_if_down-requires-clause-there : goal.restart_if_down-requires-clause-there
restart_if_down-requires-clause-there g c = manager_there _ _ _ _ _ _ c.loop-manager-test.true c.loop-manager.invariant.upto c.loop-manager.invariant.on

pub returns-in_err-restart_if_down : goal.returns-in_err-restart_if_down
returns-in_err-restart_if_down g c =
    let old = g.N.Nodes.course c.args.nodes.now in
    let now = g.N.Nodes.course c.loop-manager.nodes in
    let new = g.N.Nodes.course c.restart_if_down.new.nodes in
    part_breaks _ _ _ old new c.from_residual.ensures.1 (restarts_break c.loop-manager.manager _ old now new _ c.loop-manager-test.true c.loop-manager.invariant c.in_err-restart_if_down.ensures)

pub loop-manager-preserved : goal.loop-manager-preserved
loop-manager-preserved g c =
    let old = g.N.Nodes.course c.args.nodes.now in
    let now = g.N.Nodes.course c.loop-manager.nodes in
    let new = g.N.Nodes.course c.restart_if_down.new.nodes in
    restarts_go_on c.loop-manager.manager _ old now new _ c.loop-manager-test.true c.loop-manager.invariant c.in_ok-restart_if_down.ensures
