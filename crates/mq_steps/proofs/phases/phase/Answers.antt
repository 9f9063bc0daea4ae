use Rattle.std.proofs.Common.{◌∙◌}
use Rattle.mq_nodes.proofs.PhasedLaws.{phase_broke, phase_told}
use Rattle.mq_steps.proofs.PhaseLaws.{phase_may, phase_off, phase_on, phase_over, phase_same}
use Rattle.mq_steps.proofs.phases.phase.Goals as goal

pub returns-in_err-go : goal.returns-in_err-go
returns-in_err-go g c = phase_broke c.args.scripts.now _ _ (g.N.Nodes.course c.args.nodes.now) (g.N.Nodes.course c.go.new.arg2) c.from_residual.ensures.1 (c.requires.phase_told _ _ _ _ c.in_err-go.ensures)

pub loop-script-init : goal.loop-script-init
loop-script-init g c = phase_told c.args.scripts.now (g.N.Nodes.course c.args.nodes.now) (g.N.Nodes.course c.go.new.arg2) _ (c.requires.phase_told _ _ _ _ c.in_ok-go.ensures)

pub finish-requires-clause-tried : goal.finish-requires-clause-tried
finish-requires-clause-tried g c = phase_may c.args.scenario.now c.args.scripts.now c.loop-script.script-index (g.N.Nodes.course c.args.nodes.now) (g.N.Nodes.course c.loop-script.nodes) c.requires.same c.loop-script-test.true c.loop-script.invariant

pub finish-requires-clause-same : goal.finish-requires-clause-same
finish-requires-clause-same g c = phase_same c.args.scripts.now c.loop-script.script-index (g.N.Nodes.course c.args.nodes.now) (g.N.Nodes.course c.loop-script.nodes) c.loop-script.invariant ∙ c.requires.same

pub loop-script-preserved : goal.loop-script-preserved
loop-script-preserved g c =
    phase_on c.args.scenario.now c.args.scripts.now c.loop-script.script-index (g.N.Nodes.course c.args.nodes.now) (g.N.Nodes.course c.loop-script.nodes) (g.N.Nodes.course c.finish.new.nodes) _ c.requires.same c.requires.phased c.loop-script-test.true c.loop-script.invariant c.in_ok-finish.ensures

pub returns-in_err-finish : goal.returns-in_err-finish
returns-in_err-finish g c =
    phase_off c.args.scenario.now c.args.scripts.now c.loop-script.script-index c.from_residual-in_err-finish.result (g.N.Nodes.course c.args.nodes.now) (g.N.Nodes.course c.loop-script.nodes) (g.N.Nodes.course c.finish.new.nodes) _ c.from_residual-in_err-finish.ensures.1 c.requires.same c.requires.phased c.loop-script-test.true c.loop-script.invariant c.in_err-finish.ensures

pub returns : goal.returns
returns g c = phase_over c.args.scripts.now c.loop-script.script-index (g.N.Nodes.course c.args.nodes.now) (g.N.Nodes.course c.loop-script.nodes) tt c.loop-script-test.false c.loop-script.invariant
