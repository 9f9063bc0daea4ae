use Rattle.std.proofs.Common.{sym, ◌∙◌}
use Rattle.mq_nodes.proofs.StepLaws.{restart_breaks, restarted, stays_up}
use Rattle.mq_steps.proofs.DoingLaws.{second_part}
use Rattle.mq_steps.proofs.PartLaws.{part_breaks}
use Rattle.mq_steps.proofs.steps.restart_if_down.Goals as goal

pub returns-then-is_up : goal.returns-then-is_up
returns-then-is_up g c = stays_up c.args.manager (g.N.Nodes.course c.args.nodes.now) c.requires.ready (sym c.is_up.ensures ∙ c.if-is_up.true)

pub returns-in_err-restart : goal.returns-in_err-restart
returns-in_err-restart g c =
    let old = g.N.Nodes.course c.args.nodes.now in
    let new = g.N.Nodes.course c.restart.new.self in
    part_breaks _ _ _ old new c.from_residual.ensures.1 (restart_breaks c.args.manager old new _ c.requires.ready (sym c.is_up.ensures ∙ c.if-is_up.false) c.in_err-restart.ensures)

pub returns-then-branch : goal.returns-then-branch
returns-then-branch g c =
    let old = g.N.Nodes.course c.args.nodes.now in
    let mid = g.N.Nodes.course c.restart.new.self in
    let new = g.N.Nodes.course c.restart_once.new.nodes in
    second_part c.args.manager _ c.restart_once.result old mid new c.requires.ready (sym c.is_up.ensures ∙ c.if-is_up.false) c.if-branch.true c.in_ok-restart.ensures c.restart_once.ensures

pub returns : goal.returns
returns g c =
    let old = g.N.Nodes.course c.args.nodes.now in
    let new = g.N.Nodes.course c.restart.new.self in
    restarted c.args.manager _ old new c.requires.ready (sym c.is_up.ensures ∙ c.if-is_up.false) c.if-branch.false c.in_ok-restart.ensures
