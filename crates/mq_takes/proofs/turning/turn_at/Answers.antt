use Rattle.std.proofs.Common.{refl, sym, ◌∙◌}
use Rattle.mq_turn_parts.proofs.from_events.CountLaws.{node_low}
use Rattle.mq_turn_parts.proofs.DueLaws.{room_kept, room_may, room_served}
use Rattle.mq_takes.proofs.LiftLaws.{down_rests, low_room, rests_so, room_taken, up_room, wants_so, wants_still}
use Rattle.mq_takes.proofs.turning.turn_at.Goals as goal

pub returns-then-not-is_up : goal.returns-then-not-is_up
returns-then-not-is_up g c =
    rests_so c.args.cable _ _ _ _ c.args.parts.now c.args.parts.now c.args.offers.now refl c.requires.node.kept (down_rests c.args.parts.now c.args.cable (sym c.is_up.ensures ∙ c.if-not-is_up.true)) (g.met.W.Wire.reads_none c.args.wire.now) (g.met.W.Wire.writes_none c.args.wire.now)

pub returns-then-not-is_few : goal.returns-then-not-is_few
returns-then-not-is_few g c = wants_still c.args.cable _ _ _ _ c.args.parts.now _ c.args.offers.now c.requires.node.kept (g.met.W.Wire.reads_none c.args.wire.now) (g.met.W.Wire.writes_none c.args.wire.now)

pub returns-then-is_err : goal.returns-then-is_err
returns-then-is_err g c =
    wants_so c.args.cable _ _ _ _ c.args.parts.now c.reserve.new.self _ c.args.offers.now c.reserve.ensures.same c.requires.node.kept (g.met.W.Wire.reads_none c.args.wire.now) (g.met.W.Wire.writes_none c.args.wire.now)

pub turn_in_room-requires-clause-kept : goal.turn_in_room-requires-clause-kept
turn_in_room-requires-clause-kept g c = room_kept c.args.parts.now c.reserve.new.self c.reserve.ensures.same c.requires.node.kept

pub turn_in_room-requires-clause-served : goal.turn_in_room-requires-clause-served
turn_in_room-requires-clause-served g c = room_served c.args.parts.now c.reserve.new.self c.reserve.ensures.same c.requires.served

pub turn_in_room-requires-clause-may : goal.turn_in_room-requires-clause-may
turn_in_room-requires-clause-may g c = room_may c.args.parts.now c.reserve.new.self c.reserve.ensures.same c.requires.may

pub turn_in_room-requires-clause-up : goal.turn_in_room-requires-clause-up
turn_in_room-requires-clause-up g c = up_room c.args.parts.now c.reserve.new.self c.reserve.ensures.same (sym c.is_up.ensures ∙ c.if-not-is_up.false)

pub turn_in_room-requires-clause-few : goal.turn_in_room-requires-clause-few
turn_in_room-requires-clause-few g c = low_room c.args.parts.now c.reserve.new.self c.reserve.ensures.same (node_low c.args.parts.now c.requires.node (sym c.is_few.ensures ∙ c.if-not-is_few.false) c.requires.may)

pub returns : goal.returns
returns g c = room_taken c.args.cable _ _ _ _ c.args.parts.now c.reserve.new.self c.turn_in_room.new.parts _ _ _ c.reserve.ensures.same c.turn_in_room.ensures
