use Rattle.mq_events.proofs.CountLaws.{node_low}
use Rattle.mq_events.proofs.KeepLaws.{roomed_counts}
use Rattle.mq_events.proofs.StepLaws.{roomed_kept}
use Rattle.mq_handle.proofs.TurnLaws.{turn_place, turn_up, turn_low, turn_can, turned_kept, turned_did, turned_counts, wanted_kept, wanted_did, wanted_counts}
use Rattle.mq_handle.proofs.turning.take_turn.Goals as goal

pub returns-in_err-reserve-clause-kept : goal.returns-in_err-reserve-clause-kept
returns-in_err-reserve-clause-kept g c = roomed_kept c.args.parts.now c.reserve.new.self c.requires.node.kept c.reserve.ensures.same

pub returns-in_err-reserve-clause-counts : goal.returns-in_err-reserve-clause-counts
returns-in_err-reserve-clause-counts g c = roomed_counts c.args.parts.now c.reserve.new.self c.reserve.ensures.same

pub treat-requires-clause-place : goal.treat-requires-clause-place
treat-requires-clause-place g c = turn_place c.args.number c.args.parts.now c.reserve.new.self c.args.due.now c.reserve.ensures.same c.requires.found c.requires.alone

pub treat-requires-clause-up : goal.treat-requires-clause-up
treat-requires-clause-up g c = turn_up c.args.number c.args.parts.now c.reserve.new.self c.args.due.now c.reserve.ensures.same c.requires.found c.requires.alone

pub treat-requires-clause-low : goal.treat-requires-clause-low
treat-requires-clause-low g c =
    turn_low c.args.number c.args.parts.now c.reserve.new.self c.args.due.now c.reserve.ensures.same c.requires.found c.requires.alone (node_low c.args.parts.now c.requires.node c.requires.few c.requires.may)

pub treat-requires-clause-can : goal.treat-requires-clause-can
treat-requires-clause-can g c = turn_can c.args.number c.args.parts.now c.reserve.new.self c.args.due.now c.reserve.ensures.same c.requires.found c.requires.alone

pub returns-in-Err-clause-kept : goal.returns-in-Err-clause-kept
returns-in-Err-clause-kept g c =
    wanted_kept c.args.number c.args.parts.now c.reserve.new.self c.args.due.now c.reserve.ensures.same c.requires.found c.requires.alone c.treat.new.parts c.treat.ensures.same _ c.requires.node.kept c.in-Err.ensures.treats

pub returns-in-Err-clause-counts : goal.returns-in-Err-clause-counts
returns-in-Err-clause-counts g c =
    wanted_counts c.args.number c.args.parts.now c.reserve.new.self c.args.due.now c.reserve.ensures.same c.requires.found c.requires.alone c.treat.new.parts c.treat.ensures.same _ c.in-Err.ensures.treats

pub returns-in-Err-clause-did : goal.returns-in-Err-clause-did
returns-in-Err-clause-did g c =
    wanted_did c.args.number c.args.parts.now c.reserve.new.self c.args.due.now c.reserve.ensures.same c.requires.found c.requires.alone c.treat.new.parts c.treat.ensures.same _ c.in-Err.ensures.treats

pub returns-in-Ok-clause-kept : goal.returns-in-Ok-clause-kept
returns-in-Ok-clause-kept g c =
    turned_kept c.args.number c.args.parts.now c.reserve.new.self c.args.due.now c.reserve.ensures.same c.requires.found c.requires.alone c.treat.new.parts c.treat.ensures.same c.finish.new.self c.in-Ok.outcome c.requires.node.kept c.requires.served
    c.in-Ok.ensures.treats c.finish.ensures

pub returns-in-Ok-clause-counts : goal.returns-in-Ok-clause-counts
returns-in-Ok-clause-counts g c =
    turned_counts c.args.number c.args.parts.now c.reserve.new.self c.args.due.now c.reserve.ensures.same c.requires.found c.requires.alone c.treat.new.parts c.treat.ensures.same c.finish.new.self c.in-Ok.outcome c.in-Ok.ensures.treats c.finish.ensures

pub returns-in-Ok-clause-did : goal.returns-in-Ok-clause-did
returns-in-Ok-clause-did g c =
    turned_did c.args.number c.args.parts.now c.reserve.new.self c.args.due.now c.reserve.ensures.same c.requires.found c.requires.alone c.treat.new.parts c.treat.ensures.same c.finish.new.self c.in-Ok.outcome c.in-Ok.ensures.treats c.finish.ensures
