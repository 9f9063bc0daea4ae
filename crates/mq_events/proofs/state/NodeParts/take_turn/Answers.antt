use Rattle.mq_events.proofs.StepLaws.{roomed_kept, roomed_low, turned_kept, turned_adds, turn_wanted_kept, turn_wanted_stays}
use Rattle.mq_events.proofs.state.NodeParts.take_turn.Goals as goal

pub returns-in_err-reserve-clause-kept : goal.returns-in_err-reserve-clause-kept
returns-in_err-reserve-clause-kept g c = roomed_kept c.args.self.now c.reserve.new.self c.requires.kept c.reserve.ensures.same

pub turn-requires-clause-low : goal.turn-requires-clause-low
turn-requires-clause-low g c = roomed_low c.args.self.now c.reserve.new.self c.requires.low c.reserve.ensures.same

pub returns-in-Err-clause-kept : goal.returns-in-Err-clause-kept
returns-in-Err-clause-kept g c = turn_wanted_kept c.args.self.now c.reserve.new.self c.turn.new.self c.reserve.ensures.same c.turn.ensures.same _ c.requires.kept c.in-Err.ensures.ends

pub returns-in-Err-clause-did : goal.returns-in-Err-clause-did
returns-in-Err-clause-did g c = turn_wanted_stays c.args.self.now c.reserve.new.self c.turn.new.self c.reserve.ensures.same c.turn.ensures.same _ c.in-Err.ensures.ends

pub returns-in-Ok-clause-kept : goal.returns-in-Ok-clause-kept
returns-in-Ok-clause-kept g c =
    turned_kept c.args.self.now c.reserve.new.self c.turn.new.self c.reserve.ensures.same c.turn.ensures.same c.finish.new.self c.args.actor c.in-Ok.outcome c.requires.kept c.requires.actor c.in-Ok.ensures.ends c.finish.ensures

pub returns-in-Ok-clause-did : goal.returns-in-Ok-clause-did
returns-in-Ok-clause-did g c =
    turned_adds c.args.self.now c.reserve.new.self c.turn.new.self c.reserve.ensures.same c.turn.ensures.same c.finish.new.self c.args.actor c.in-Ok.outcome c.in-Ok.ensures.ends c.finish.ensures
