use Rattle.std.specs.Prelude.{◌<◌, ℕ, length, slice_get}
use Rattle.std.proofs.Common.{ap, subst, sym, ◌∙◌}
use Rattle.mq_history.specs.declared.scenario.Scenario.{Scenario}
use Rattle.mq_history.specs.declared.scenario.ScriptPart.{ScriptPart}
use Rattle.mq_steps.proofs.LinesLaws.{finish_breaks, finish_nothing, finish_on, finished_none, first_ready, first_rests, first_same}
use Rattle.mq_steps.proofs.PartLaws.{at_it}
use Rattle.mq_steps.proofs.lines.finish.Goals as goal

pub returns-in_default : goal.returns-in_default
returns-in_default g c = finish_nothing c.args.script _ (g.N.Nodes.course c.args.nodes.now) (ap (λ (n : ℕ). slice_get c.args.scenario.now.scripts n) (sym c.from.ensures) ∙ sym c.in_default.ensures)

pub line-requires-clause-tried : goal.line-requires-clause-tried
line-requires-clause-tried g c = c.requires.tried c.in-Some.part.now (ap (slice_get c.args.scenario.now.scripts) (sym c.from.ensures) ∙ sym c.in-Some.ensures)

pub line-requires-clause-there : goal.line-requires-clause-there
line-requires-clause-there g c = ap (λ (s : Scenario). slice_get s.scripts c.args.script) c.requires.same ∙ ap (slice_get c.args.scenario.now.scripts) (sym c.from.ensures) ∙ sym c.in-Some.ensures

pub line-requires-clause-manager : goal.line-requires-clause-manager
line-requires-clause-manager g c = subst (λ (s : Scenario). c.in-Some.part.now.manager < length s.managers) (sym c.requires.same) (at_it (λ (p : ScriptPart). p.manager < length c.args.scenario.now.managers) c.args.scenario.now.scripts _ _ c.requires.scripts (sym c.in-Some.ensures))

pub returns-in_err-line : goal.returns-in_err-line
returns-in_err-line g c =
    finish_breaks c.args.script c.in-Some.part.now _ _ _ (g.N.Nodes.course c.args.nodes.now) (g.N.Nodes.course c.line.new.nodes) c.from_residual.ensures.1 c.requires.ready
    (ap (slice_get c.args.scenario.now.scripts) (sym c.from.ensures) ∙ sym c.in-Some.ensures) c.in_err-line.ensures

pub returns-then-not-branch : goal.returns-then-not-branch
returns-then-not-branch g c =
    finished_none c.args.script c.in-Some.part.now _ _ (g.N.Nodes.course c.args.nodes.now) (g.N.Nodes.course c.line.new.nodes) c.requires.ready
    (ap (slice_get c.args.scenario.now.scripts) (sym c.from.ensures) ∙ sym c.in-Some.ensures) c.if-not-branch.true c.in_ok-line.ensures

pub lines-requires-clause-ready : goal.lines-requires-clause-ready
lines-requires-clause-ready g c = first_ready c.args.script c.in-Some.part.now _ (g.N.Nodes.course c.args.nodes.now) (g.N.Nodes.course c.line.new.nodes) c.if-not-branch.false (c.requires.tried c.in-Some.part.now (ap (slice_get c.args.scenario.now.scripts) (sym c.from.ensures) ∙ sym c.in-Some.ensures)) c.in_ok-line.ensures

pub lines-requires-clause-rests : goal.lines-requires-clause-rests
lines-requires-clause-rests g c = first_rests c.args.script c.in-Some.part.now _ (g.N.Nodes.course c.args.nodes.now) (g.N.Nodes.course c.line.new.nodes) c.if-not-branch.false (c.requires.tried c.in-Some.part.now (ap (slice_get c.args.scenario.now.scripts) (sym c.from.ensures) ∙ sym c.in-Some.ensures)) c.in_ok-line.ensures

pub lines-requires-clause-there : goal.lines-requires-clause-there
lines-requires-clause-there g c =
    ap (λ (s : Scenario). slice_get s.scripts c.args.script) (first_same c.args.script c.in-Some.part.now _ (g.N.Nodes.course c.args.nodes.now) (g.N.Nodes.course c.line.new.nodes) c.if-not-branch.false (c.requires.tried c.in-Some.part.now (ap (slice_get c.args.scenario.now.scripts) (sym c.from.ensures) ∙ sym c.in-Some.ensures)) c.in_ok-line.ensures)
    ∙ ap (λ (s : Scenario). slice_get s.scripts c.args.script) c.requires.same ∙ ap (slice_get c.args.scenario.now.scripts) (sym c.from.ensures) ∙ sym c.in-Some.ensures

pub lines-requires-clause-manager : goal.lines-requires-clause-manager
lines-requires-clause-manager g c =
    subst (λ (s : Scenario). c.in-Some.part.now.manager < length s.managers)
    (sym (first_same c.args.script c.in-Some.part.now _ (g.N.Nodes.course c.args.nodes.now) (g.N.Nodes.course c.line.new.nodes) c.if-not-branch.false (c.requires.tried c.in-Some.part.now (ap (slice_get c.args.scenario.now.scripts) (sym c.from.ensures) ∙ sym c.in-Some.ensures)) c.in_ok-line.ensures))
    (subst (λ (s : Scenario). c.in-Some.part.now.manager < length s.managers) (sym c.requires.same) (at_it (λ (p : ScriptPart). p.manager < length c.args.scenario.now.managers) c.args.scenario.now.scripts _ _ c.requires.scripts (sym c.in-Some.ensures)))

pub returns : goal.returns
returns g c =
    finish_on c.args.script c.in-Some.part.now _ _ _ c.lines.result (g.N.Nodes.course c.args.nodes.now) (g.N.Nodes.course c.line.new.nodes) (g.N.Nodes.course c.lines.new.nodes) c.requires.ready
    (ap (slice_get c.args.scenario.now.scripts) (sym c.from.ensures) ∙ sym c.in-Some.ensures) c.len.ensures c.if-not-branch.false c.in_ok-line.ensures c.lines.ensures
