use Rattle.std.proofs.Common.{arith}
use Rattle.mq_index.proofs.pack.pack.Goals as goal

pub returns-in-Ok-clause-room : goal.returns-in-Ok-clause-room
returns-in-Ok-clause-room c = omega (arith, c.in-Ok.ensures.enough, c.needs.ensures, c.move_rows.ensures.room, c.raise.ensures.room)
