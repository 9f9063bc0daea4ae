use Rattle.mq_turns.proofs.SettleLaws.{want_same}
use Rattle.mq_turns.proofs.answering.answering_turn.Goals as goal

pub returns-in-None : goal.returns-in-None
returns-in-None g c = λ o. want_same c.args.parts.now c.args.end.cable _ _ _ _ _ o c.requires.may.acts.kept (g.met.W.Wire.reads_none c.args.wire.now) (g.met.W.Wire.writes_none c.args.wire.now)
