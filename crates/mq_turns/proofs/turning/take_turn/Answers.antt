use Rattle.std.specs.Prelude.{[]}
use Rattle.mq_turns.proofs.NodeLaws.{room_turn, room_want}
use Rattle.mq_turn_parts.proofs.WireLaws.{sees_empty, sends_widened}
use Rattle.mq_turns.proofs.turning.take_turn.Goals as goal

pub returns-then-is_err : goal.returns-then-is_err
returns-then-is_err g c = room_want c.args.parts.now c.reserve.new.self c.args.end.cable _ _ _ _ _ _ c.reserve.ensures.same c.requires.acts.kept (g.met.W.Wire.reads_none c.args.wire.now) (g.met.W.Wire.writes_none c.args.wire.now)

pub returns-in-Err : goal.returns-in-Err
returns-in-Err g c = room_want c.args.parts.now c.reserve.new.self c.args.end.cable _ _ _ _ _ _ c.reserve.ensures.same c.requires.acts.kept c.see.ensures.same.1 c.see.ensures.same.0

pub returns-in-Ok : goal.returns-in-Ok
returns-in-Ok g c = room_turn _ _ _ _ _ _ c.args.end.cable c.args.parts.now c.reserve.new.self _ _ c.reserve.ensures.same
    (sends_widened _ _ _ _ _ _ _ _
    (λ xs r. g.met.W.Wire.reads_more c.args.wire.now c.see.new.wire _ [] xs c.see.ensures.same.1 r)
    (λ xs w. g.met.W.Wire.writes_more c.args.wire.now c.see.new.wire _ [] xs c.see.ensures.same.0 w)
    (λ r e. (c.see.new.wire, sees_empty _ _ c.in-Ok.sight.seen c.in-Ok.sight.stamp c.in-Ok.ensures.saw e, r))
    (λ f. g.met.W.Wire.full_later c.args.wire.now c.see.new.wire _ [] c.see.ensures.same.0 f)
    c.args.end.cable _ _ _ _ _ c.sighted_turn.ensures)
