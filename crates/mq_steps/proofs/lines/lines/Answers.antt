use Rattle.std.specs.Prelude.{◌<◌, ◌≡◌, Some, None, length, slice_get}
use Rattle.std.proofs.Common.{subst, sym}
use Rattle.mq_history.specs.declared.scenario.Scenario.{Scenario}
use Rattle.mq_nodes.proofs.Onward.{same}
use Rattle.mq_steps.proofs.LinesLaws.{lines_begin, lines_break, lines_over, no_line, none_alone, one_more}
use Rattle.mq_steps.proofs.PartLaws.{part_breaks}
use Rattle.mq_steps.proofs.lines.lines.Goals as goal

pub loop-init : goal.loop-init
loop-init g c = lines_begin c.args.script c.args.part.now c.args.most (g.N.Nodes.course c.args.nodes.now) c.requires.ready c.requires.rests

pub line-requires-clause-tried : goal.line-requires-clause-tried
line-requires-clause-tried g c = (None, c.loop.invariant.1.rests)

pub line-requires-clause-there : goal.line-requires-clause-there
line-requires-clause-there g c = subst (λ (s : Scenario). slice_get s.scripts c.args.script ≡ Some c.args.part.now) (sym (same _ _ _ _ c.loop.invariant.0)) c.requires.there

pub line-requires-clause-manager : goal.line-requires-clause-manager
line-requires-clause-manager g c = subst (λ (s : Scenario). c.args.part.now.manager < length s.managers) (sym (same _ _ _ _ c.loop.invariant.0)) c.requires.manager

pub returns-in_err-line : goal.returns-in_err-line
returns-in_err-line g c = (
  part_breaks _ _ _ _ _ c.from_residual.ensures.1 (lines_break c.args.script c.args.part.now c.args.most c.loop.counter (g.N.Nodes.course c.args.nodes.now) (g.N.Nodes.course c.loop.nodes) (g.N.Nodes.course c.line.new.nodes) _ c.loop-test.true c.loop.invariant c.in_err-line.ensures),
  none_alone c.args.script _ _ _ _ c.from_residual.ensures.1,
)

pub returns-then-not-branch : goal.returns-then-not-branch
returns-then-not-branch g c = no_line c.args.script c.args.part.now c.args.most c.loop.counter (g.N.Nodes.course c.args.nodes.now) (g.N.Nodes.course c.loop.nodes) (g.N.Nodes.course c.line.new.nodes) _ c.if-not-branch.true c.loop.invariant c.in_ok-line.ensures

pub loop-preserved : goal.loop-preserved
loop-preserved g c = one_more c.args.script c.args.part.now c.args.most c.loop.counter (g.N.Nodes.course c.args.nodes.now) (g.N.Nodes.course c.loop.nodes) (g.N.Nodes.course c.line.new.nodes) _ c.loop-test.true c.if-not-branch.false c.loop.invariant c.in_ok-line.ensures

pub returns : goal.returns
returns g c = lines_over c.args.script c.args.part.now c.args.most c.loop.counter (g.N.Nodes.course c.args.nodes.now) (g.N.Nodes.course c.loop.nodes) c.loop-test.false c.loop.invariant
