use Rattle.mq_events.proofs.StepLaws.{roomed_kept}
use Rattle.mq_events.proofs.ObeyLaws.{obeyed_kept, obeyed_adds, unobeyed_kept, unobeyed_stays}
use Rattle.mq_events.proofs.state.NodeParts.command.Goals as goal

pub returns-in_err-reserve-clause-kept : goal.returns-in_err-reserve-clause-kept
returns-in_err-reserve-clause-kept g c = roomed_kept c.args.self.now c.reserve.new.self c.requires.kept c.reserve.ensures.same

pub returns-in-Err-clause-kept : goal.returns-in-Err-clause-kept
returns-in-Err-clause-kept g c = unobeyed_kept c.args.self.now c.reserve.new.self c.obey.new.self c.args.actor c.args.asked c.reserve.ensures.same c.obey.ensures.same _ c.requires.kept c.in-Err.ensures.ends

pub returns-in-Err-clause-did : goal.returns-in-Err-clause-did
returns-in-Err-clause-did g c = unobeyed_stays c.args.self.now c.reserve.new.self c.obey.new.self c.args.actor c.args.asked c.reserve.ensures.same c.obey.ensures.same _ c.in-Err.ensures.ends

pub returns-in-Ok-clause-kept : goal.returns-in-Ok-clause-kept
returns-in-Ok-clause-kept g c =
    obeyed_kept c.args.self.now c.reserve.new.self c.obey.new.self c.args.actor c.args.asked c.reserve.ensures.same c.obey.ensures.same c.finish.new.self c.in-Ok.obeyed.outcome
    c.requires.kept c.requires.served c.in-Ok.ensures.ends.0 c.finish.ensures

pub returns-in-Ok-clause-did : goal.returns-in-Ok-clause-did
returns-in-Ok-clause-did g c =
    obeyed_adds c.args.self.now c.reserve.new.self c.obey.new.self c.args.actor c.args.asked c.reserve.ensures.same c.obey.ensures.same c.finish.new.self c.in-Ok.obeyed.outcome c.in-Ok.obeyed.acted
    c.in-Ok.ensures.ends.0 c.in-Ok.ensures.ends.1 c.finish.ensures
