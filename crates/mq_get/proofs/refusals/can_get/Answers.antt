use Rattle.std.proofs.Common.{sym}
use Rattle.std.specs.Prelude.{None}
use Rattle.mq_core.specs.Views.{plain_of}
use Rattle.mq_get.proofs.GetLaws.{gets, get_is, get_refused}
use Rattle.mq_get.proofs.refusals.can_get.Goals as goal

pub returns-in-Err : goal.returns-in-Err
returns-in-Err g c until = get_refused c.args.hc.now c.args.ho.now c.args.get.now until (plain_of c.args.parts.now) c.in-Err.reason c.in-Err.ensures

pub returns-in_default : goal.returns-in_default
returns-in_default g c until = get_is c.args.hc.now c.args.ho.now c.args.get.now until (plain_of c.args.parts.now) c.in-Ok.seat.now None c.in-Ok.ensures.connected (sym c.in_default.ensures)

pub returns : goal.returns
returns g c until = gets c.args.hc.now c.args.ho.now c.args.get.now until (plain_of c.args.parts.now) c.in-Ok.seat.now c.in-Some.handle.now c.can_look.result c.in-Ok.ensures (sym c.in-Some.ensures) (c.can_look.ensures until)
