use Rattle.std.specs.Prelude.{◌<◌, ℕ, All, List, length, slice_get}
use Rattle.std.proofs.Common.{ap, subst, sym, ◌∙◌}
use Rattle.mq_history.specs.declared.scenario.Scenario.{Scenario}
use Rattle.mq_history.specs.declared.scenario.Section.{Section}
use Rattle.mq_sc_parse.specs.declared.command.Command.{Command}
use Rattle.mq_spec_network.specs.Tasks.{obey_section}
use Rattle.mq_steps.proofs.PartLaws.{at_it, nothing_asked}
use Rattle.mq_steps.proofs.asks.obey.Goals as goal

pub returns-in_default : goal.returns-in_default
returns-in_default g c = nothing_asked _ (g.N.Nodes.course c.args.nodes.now) tt c.requires.ready (ap (λ (n : ℕ). obey_section (slice_get c.args.scenario.now.sections n)) (sym c.from.ensures) ∙ ap obey_section (sym c.in_default.ensures))

pub obey_all-requires-clause-there : goal.obey_all-requires-clause-there
obey_all-requires-clause-there g c = subst (λ (s : Scenario). c.in-Some.part.now.manager < length s.managers) (sym c.requires.same) (at_it (λ (p : Section). p.manager < length c.args.scenario.now.managers) c.args.scenario.now.sections _ _ c.requires.sections (sym c.in-Some.ensures))

pub obey_all-requires-clause-may : goal.obey_all-requires-clause-may
obey_all-requires-clause-may g c =
    subst (λ (cs : List Command). All g.N.Nodes.may_obey cs) (sym c.as_slice.ensures)
    (at_it (λ (p : Section). All g.N.Nodes.may_obey p.commands) c.args.scenario.now.sections _ _ c.requires.may (sym c.in-Some.ensures))
