use Rattle.std.proofs.Common.{[], refl}
use Rattle.mq_turn_parts.proofs.WireLaws.{has_seen, sees_empty}
use Rattle.mq_turn_parts.specs.Unseen.{Empty}
use Rattle.mq_takes.specs.Takes.{whole}
use Rattle.mq_takes.proofs.LookLaws.{put_seen, turn_seen}
use Rattle.mq_takes.proofs.turning.seen_turn.Goals as goal

pub returns-in-Err : goal.returns-in-Err
returns-in-Err g c = λ o.
    put_seen c.args.parts.now c.put_back.new.parts c.args.end c.args.end _ _ _ _ _ o o c.requires.may.acts refl c.put_back.ensures c.see.ensures.same.1 (record { same = refl; written = c.see.ensures.same.0 })

pub sighted_turn-requires-clause-saw : goal.sighted_turn-requires-clause-saw
sighted_turn-requires-clause-saw g c = has_seen _ _ _ _ c.in-Ok.ensures.saw c.in-Ok.ensures.stamp

pub returns-in-Ok : goal.returns-in-Ok
returns-in-Ok g c = λ o.
    turn_seen c.args.end.cable (λ xs. g.W.Wire.reads c.see.new.wire xs c.sighted_turn.new.wire) (λ xs. g.W.Wire.writes c.see.new.wire xs c.sighted_turn.new.wire) _ _ _ _ _ _ o o (whole c.args.end c.args.parts.now) c.sighted_turn.new.parts c.sighted_turn.result
    (λ xs r. g.met.W.Wire.reads_more c.args.wire.now c.see.new.wire c.sighted_turn.new.wire [] xs c.see.ensures.same.1 r)
    (λ xs w. g.met.W.Wire.writes_more c.args.wire.now c.see.new.wire c.sighted_turn.new.wire [] xs c.see.ensures.same.0 w)
    (λ read none. Empty (c.see.new.wire, sees_empty _ _ _ _ c.in-Ok.ensures.saw none, read))
    (λ x. absurd x) (c.sighted_turn.ensures o)
