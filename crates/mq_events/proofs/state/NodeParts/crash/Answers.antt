use Rattle.std.proofs.Common.{ap, ◌∙◌}
use Rattle.mq_history.specs.declared.acts.Act.TheVariants as acts
use Rattle.mq_history.specs.declared.acts.Acted.{Acted}
use Rattle.mq_history.specs.declared.calls.Call.TheVariants as calls
use Rattle.mq_events.specs.States.{told, quietly}
use Rattle.mq_events.proofs.StepLaws.{roomed_kept, crashed_kept}
use Rattle.mq_events.proofs.KeepLaws.{stopped_counts}
use Rattle.mq_events.proofs.state.NodeParts.crash.Goals as goal

pub returns-in_err-reserve-clause-kept : goal.returns-in_err-reserve-clause-kept
returns-in_err-reserve-clause-kept g c = roomed_kept c.args.self.now c.reserve.new.self c.requires.kept c.reserve.ensures.same

pub returns-clause-kept : goal.returns-clause-kept
returns-clause-kept g c =
    crashed_kept c.args.self.now c.reserve.new.self c.stop-up.new.self c.finish_act.new.self c.args.actor c.stop-up.result c.requires.kept c.requires.served c.reserve.ensures.same c.stop-up.ensures.same
    c.stop-up.ensures.answer c.stop-up.ensures.after (c.finish_act.ensures ∙ ap (λ (a : Acted). told c.args.actor (calls.Act acts.Crash) (quietly a) c.stop-up.new.self) c.acted_by.ensures)

pub returns-clause-counts : goal.returns-clause-counts
returns-clause-counts g c =
    stopped_counts c.args.self.now c.reserve.new.self c.stop-up.new.self c.finish_act.new.self c.args.actor c.stop-up.result acts.Crash c.acted_by.result c.reserve.ensures.same c.stop-up.ensures.same c.finish_act.ensures
