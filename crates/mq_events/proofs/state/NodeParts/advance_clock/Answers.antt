use Rattle.mq_events.proofs.StepLaws.{roomed_kept, later_kept}
use Rattle.mq_events.proofs.state.NodeParts.advance_clock.Goals as goal

pub returns-in_err-reserve-clause-kept : goal.returns-in_err-reserve-clause-kept
returns-in_err-reserve-clause-kept g c = roomed_kept c.args.self.now c.reserve.new.self c.requires.kept c.reserve.ensures.same

pub returns-clause-kept : goal.returns-clause-kept
returns-clause-kept g c =
    later_kept c.args.self.now c.reserve.new.self c.later.new.self c.finish_act.new.self c.args.actor c.reserve.ensures.same c.later.ensures.same c.args.by c.requires.kept c.requires.served c.later.ensures.after c.finish_act.ensures
