use Rattle.mq_turns.proofs.NodeLaws.{sends_at, stands_still}
use Rattle.mq_turns.proofs.turning.turn_at.Goals as goal

pub returns-in-None : goal.returns-in-None
returns-in-None g c = stands_still c.args.parts.now c.args.cable _ _ _ _ _ c.in-None.ensures c.requires.kept (g.met.W.Wire.reads_none c.args.wire.now) (g.met.W.Wire.writes_none c.args.wire.now)

pub returns-in-Some : goal.returns-in-Some
returns-in-Some g c = sends_at c.args.cable _ _ _ _ _ _ c.args.parts.now _ c.in-Some.end _ c.in-Some.ensures c.take_turn.ensures
