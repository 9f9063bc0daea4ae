use Rattle.std.specs.Prelude.{◌<◌, length, refl}
use Rattle.std.proofs.lemmas.Option.{slice_get_read}
use Rattle.std.proofs.Common.{subst, sym}
use Rattle.mq_history.specs.declared.scenario.Scenario.{Scenario}
use Rattle.mq_nodes.proofs.Onward.{same}
use Rattle.mq_nodes.proofs.Asking.{obeys, obey_fails}
use Rattle.mq_steps.proofs.PartLaws.{at_it, part_breaks}
use Rattle.mq_steps.proofs.asks.obey_all.Goals as goal

pub obey-requires-clause-there : goal.obey-requires-clause-there
obey-requires-clause-there g c = subst (λ (s : Scenario). c.args.manager < length s.managers) (sym (same _ _ _ _ c.loop-command.invariant)) c.requires.there

pub returns-in_err-obey : goal.returns-in_err-obey
returns-in_err-obey g c = part_breaks _ _ _ _ _ c.from_residual.ensures.1 (obey_fails _ _ _ _ _ _ _ _ c.loop-command.invariant (slice_get_read _ _ _ _ refl c.loop-command-test.true c.command-item.is) c.loop-command-test.true c.in_err-obey.ensures)

pub loop-command-preserved : goal.loop-command-preserved
loop-command-preserved g c = obeys _ _ _ _ _ _ _ _ c.loop-command.invariant (slice_get_read _ _ _ _ refl c.loop-command-test.true c.command-item.is) c.loop-command-test.true c.in_ok-obey.ensures

pub obey-requires-clause-may : goal.obey-requires-clause-may
obey-requires-clause-may g c = at_it g.N.Nodes.may_obey c.args.commands.now c.loop-command.command-index c.command-item.result c.requires.may (slice_get_read _ _ _ _ refl c.loop-command-test.true c.command-item.is)
