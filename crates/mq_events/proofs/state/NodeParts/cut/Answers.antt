use Rattle.mq_events.proofs.StepLaws.{roomed_kept, armed_kept}
use Rattle.mq_events.proofs.state.NodeParts.cut.Goals as goal

pub returns-in_err-reserve-clause-kept : goal.returns-in_err-reserve-clause-kept
returns-in_err-reserve-clause-kept g c = roomed_kept c.args.self.now c.reserve.new.self c.requires.kept c.reserve.ensures.same

pub returns-clause-kept : goal.returns-clause-kept
returns-clause-kept g c =
    armed_kept c.args.self.now c.reserve.new.self c.arm.new.self c.finish_act.new.self c.args.actor c.reserve.ensures.same c.arm.ensures.same c.args.k c.requires.kept c.requires.served c.arm.ensures.after c.finish_act.ensures
