use Rattle.std.proofs.Common.{rules, ◌≡◌, false}
use Rattle.mq_frame.specs.Sight.{waits}
use Rattle.mq_turns.proofs.LineLaws.{answered_so, nothing_seen, owned_so}
use Rattle.mq_turns.proofs.SettleLaws.{want_same}
use Rattle.mq_turns.proofs.turning.sighted_turn.Goals as goal

pub returns-then-waits : goal.returns-then-waits
returns-then-waits g c = answered_so c.args.end.cable _ _ _ _ _ _ _ _ (c.answering_turn.ensures _)

pub returns-in-None : goal.returns-in-None
returns-in-None g c = want_same c.args.parts.now c.args.end.cable _ _ _ _ _ _ c.requires.may.acts.kept (g.met.W.Wire.reads_none c.args.wire.now) (g.met.W.Wire.writes_none c.args.wire.now)

pub returns-in-Some : goal.returns-in-Some
returns-in-Some g c =
    let w : waits c.args.sight.seen ≡ false = search rules in
    owned_so c.args.end.cable _ _ _ _ _ _ _ _ _ (nothing_seen c.args.sight.seen w) c.line_turn.ensures
