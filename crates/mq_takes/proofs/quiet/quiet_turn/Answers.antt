use Rattle.std.specs.Prelude.{max}
use Rattle.std.proofs.Common.{◌+◌, refl}
use Rattle.mq_takes.proofs.TakeLaws.{leaves_so, put_so}
use Rattle.mq_takes.specs.Takes.{whole}
use Rattle.mq_takes.proofs.quiet.quiet_turn.Goals as goal

pub returns-in-Err : goal.returns-in-Err
returns-in-Err g c = λ o.
    put_so c.args.parts.now c.put_back.new.parts c.args.end c.step.new.end _ _ _ _ _ o o c.requires.may.acts c.in-Err.ensures.err c.put_back.ensures (g.met.W.Wire.reads_none c.args.wire.now) (record { same = refl; written = g.met.W.Wire.writes_none c.args.wire.now })

pub returns-in-Ok : goal.returns-in-Ok
returns-in-Ok g c = λ o.
    c.leave.ensures o c.args.end (leaves_so (max c.args.parts.now.stamp c.args.sight.stamp + 1) c.args.end c.step.new.end c.args.does c.args.sight.seen (whole c.args.end c.args.parts.now) c.requires.may.acts c.requires.quiet c.requires.next c.in-Ok.ensures.ok)
