use Rattle.mq_nodes.proofs.CarriedLaws.{carried_grows, carried_ran}
use Rattle.mq_nodes.proofs.StepLaws.{are_steps, ran_all}
use Rattle.mq_steps.proofs.DoingLaws.{done_all}
use Rattle.mq_steps.proofs.steps.run_steps.Goals as goal

pub returns-clause-ran : goal.returns-clause-ran
returns-clause-ran g c =
    let old = g.N.Nodes.course c.args.nodes.now in
    let mid = g.N.Nodes.course c.do_steps.new.nodes in
    let new = g.N.Nodes.course c.last_restarts.new.nodes in
    ran_all old mid new c.last_restarts.result c.in_ok-do_steps.ensures.told c.last_restarts.ensures

pub returns-clause-lawful : goal.returns-clause-lawful
returns-clause-lawful g c =
    let old = g.N.Nodes.course c.args.nodes.now in
    let mid = g.N.Nodes.course c.do_steps.new.nodes in
    let new = g.N.Nodes.course c.last_restarts.new.nodes in
    λ hs has. are_steps c.args.scenario.now hs c.last_restarts.result old new (ran_all old mid new c.last_restarts.result c.in_ok-do_steps.ensures.told c.last_restarts.ensures) has

pub returns-clause-all : goal.returns-clause-all
returns-clause-all g c =
    let old = g.N.Nodes.course c.args.nodes.now in
    let mid = g.N.Nodes.course c.do_steps.new.nodes in
    let new = g.N.Nodes.course c.last_restarts.new.nodes in
    done_all c.args.scenario.now c.last_restarts.result old new c.requires.same (ran_all old mid new c.last_restarts.result c.in_ok-do_steps.ensures.told c.last_restarts.ensures)

pub returns-clause-carried : goal.returns-clause-carried
returns-clause-carried g c =
    let old = g.N.Nodes.course c.args.nodes.now in
    let mid = g.N.Nodes.course c.do_steps.new.nodes in
    let new = g.N.Nodes.course c.last_restarts.new.nodes in
    let part = c.last_restarts.ensures in
    carried_ran c.args.scenario.now c.last_restarts.result old new c.requires.same (ran_all old mid new c.last_restarts.result c.in_ok-do_steps.ensures.told part)
    (carried_grows mid new _ part.left part.goes part.marks c.in_ok-do_steps.ensures.carried)

pub returns-in_err-do_steps-clause-carried : goal.returns-in_err-do_steps-clause-carried
returns-in_err-do_steps-clause-carried g c =
    let old = g.N.Nodes.course c.args.nodes.now in
    let new = g.N.Nodes.course c.do_steps.new.nodes in
    carried_ran c.args.scenario.now _ old new c.requires.same c.in_err-do_steps.ensures.told c.in_err-do_steps.ensures.carried
