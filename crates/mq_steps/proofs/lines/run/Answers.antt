use Rattle.std.specs.Prelude.{◌<◌, ℕ, length, slice_get}
use Rattle.std.proofs.Common.{ap, subst, sym, ◌∙◌}
use Rattle.mq_history.specs.declared.scenario.Scenario.{Scenario}
use Rattle.mq_history.specs.declared.scenario.ScriptPart.{ScriptPart}
use Rattle.mq_spec_network.specs.Tasks.{run_script}
use Rattle.mq_steps.specs.Lines.{number_or}
use Rattle.mq_steps.proofs.LinesLaws.{ran_script}
use Rattle.mq_steps.proofs.PartLaws.{at_it, nothing_asked}
use Rattle.mq_steps.proofs.lines.run.Goals as goal

pub returns-in_default : goal.returns-in_default
returns-in_default g c = nothing_asked _ (g.N.Nodes.course c.args.nodes.now) tt c.requires.ready (ap (λ (n : ℕ). run_script c.args.script c.args.most (slice_get c.args.scenario.now.scripts n)) (sym c.from.ensures) ∙ ap (run_script c.args.script c.args.most) (sym c.in_default.ensures))

pub lines-requires-clause-manager : goal.lines-requires-clause-manager
lines-requires-clause-manager g c = subst (λ (s : Scenario). c.in-Some.part.now.manager < length s.managers) (sym c.requires.same) (at_it (λ (p : ScriptPart). p.manager < length c.args.scenario.now.managers) c.args.scenario.now.scripts _ _ c.requires.scripts (sym c.in-Some.ensures))

pub lines-requires-clause-rests : goal.lines-requires-clause-rests
lines-requires-clause-rests g c = c.requires.rests c.args.script

pub returns : goal.returns
returns g c = ran_script c.args.script c.in-Some.part.now _ c.args.most c.number.result c.lines.result (g.N.Nodes.course c.args.nodes.now) (g.N.Nodes.course c.lines.new.nodes) c.requires.ready (ap (slice_get c.args.scenario.now.scripts) (sym c.from.ensures) ∙ sym c.in-Some.ensures) (c.number.ensures ∙ ap (number_or c.args.most) c.len.ensures) c.lines.ensures.0
