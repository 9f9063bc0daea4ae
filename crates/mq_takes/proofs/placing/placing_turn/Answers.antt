use Rattle.std.proofs.Common.{refl}
use Rattle.mq_takes.proofs.TakeLaws.{put_so}
use Rattle.mq_takes.proofs.placing.placing_turn.Goals as goal

pub returns-in-Err : goal.returns-in-Err
returns-in-Err g c = λ o.
    put_so c.args.parts.now c.put_back.new.parts c.args.end c.args.end _ _ _ _ _ o o c.requires.may.acts refl c.put_back.ensures (g.met.W.Wire.reads_none c.args.wire.now) (record { same = refl; written = g.met.W.Wire.writes_none c.args.wire.now })
