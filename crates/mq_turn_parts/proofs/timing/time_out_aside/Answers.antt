use Rattle.mq_turn_parts.proofs.WaitLaws.{due_aside}
use Rattle.mq_turn_parts.proofs.TimedLaws.{drawn_due, drawn_kept, drawn_may, drawn_room, drawn_served, timed_did, timed_node}
use Rattle.mq_turn_parts.proofs.timing.time_out_aside.Goals as goal

pub draw-requires : goal.draw-requires
draw-requires g c = record { aside = due_aside c.args.parts.now c.args.end c.requires.due c.requires.node.aside }

pub time_out-requires-clause-room : goal.time_out-requires-clause-room
time_out-requires-clause-room g c = drawn_room c.args.parts.now c.draw.new.self c.draw.ensures

pub time_out-requires-clause-kept : goal.time_out-requires-clause-kept
time_out-requires-clause-kept g c = drawn_kept c.args.parts.now c.draw.new.self c.draw.ensures c.requires.node.kept

pub time_out-requires-clause-served : goal.time_out-requires-clause-served
time_out-requires-clause-served g c = drawn_served c.args.parts.now c.draw.new.self c.draw.ensures c.requires.served

pub time_out-requires-clause-may : goal.time_out-requires-clause-may
time_out-requires-clause-may g c = drawn_may c.args.parts.now c.draw.new.self c.draw.ensures c.requires.may

pub time_out-requires-clause-due : goal.time_out-requires-clause-due
time_out-requires-clause-due g c = drawn_due c.args.parts.now c.draw.new.self c.draw.ensures c.args.end c.requires.due

pub returns-clause-node : goal.returns-clause-node
returns-clause-node g c =
    timed_node c.args.parts.now c.draw.new.self c.draw.ensures c.time_out.new.parts c.args.end c.requires.node c.requires.due c.time_out.ensures.kept c.time_out.ensures.did c.time_out.ensures.spare c.time_out.ensures.waits

pub returns-clause-did : goal.returns-clause-did
returns-clause-did g c = timed_did c.args.parts.now c.draw.new.self c.draw.ensures c.time_out.new.parts c.args.end c.time_out.ensures.did
