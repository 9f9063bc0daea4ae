use Rattle.std.proofs.Common.{arith}
use Rattle.mq_handles.proofs.DeskLaws.{desk_connected}
use Rattle.mq_handles.proofs.live.Live.connect.Goals as goal

pub invariant_of-self-2 : goal.invariant_of-self-2
invariant_of-self-2 c = grind (arith, c.if-is_err.false, c.push.ensures.ok, desk_connected c.self.inside.live c.self.inside.last c.self.inside.users c.args.appl.now c.self.invariant, c.new.ensures)
