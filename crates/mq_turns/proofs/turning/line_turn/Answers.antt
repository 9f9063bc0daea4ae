use Rattle.std.proofs.Common.{◌≡◌, sym, ◌∙◌}
use Rattle.mq_frame.specs.declared.frame.Seen.TheVariants as items
use Rattle.mq_turns.proofs.LineLaws.{lined_so, still_line}
use Rattle.mq_turns.proofs.PreparedLaws.{passes_none}
use Rattle.mq_turns.proofs.turning.line_turn.Goals as goal

pub returns-in-HardenSession : goal.returns-in-HardenSession
returns-in-HardenSession g c = lined_so c.args.end.cable _ _ _ _ _ _ (c.args.sight.seen ≡ items.Nothing) _ (c.settling_turn.ensures _)

pub returns-in-Expire : goal.returns-in-Expire
returns-in-Expire g c = lined_so c.args.end.cable _ _ _ _ _ _ (c.args.sight.seen ≡ items.Nothing) _ (c.settling_turn-in-Expire.ensures _)

pub returns-in-Prepare : goal.returns-in-Prepare
returns-in-Prepare g c = passes_none c.args.end.cable _ _ _ _ _ _ c.prepare_turn.result _ (g.met.W.Wire.reads_none c.args.wire.now) (g.met.W.Wire.writes_none c.args.wire.now) tt (c.prepare_turn.ensures _)

pub returns-in-Still : goal.returns-in-Still
returns-in-Still g c = still_line c.args.parts.now c.args.end _ _ _ _ c.requires.may.acts (sym c.in-Still.is ∙ c.requires.next) (g.met.W.Wire.reads_none c.args.wire.now) (g.met.W.Wire.writes_none c.args.wire.now)
