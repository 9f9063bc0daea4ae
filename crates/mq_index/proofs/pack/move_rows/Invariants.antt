use Rattle.mq_index.proofs.MoveLaws.{Moved}
use Rattle.mq_index.proofs.pack.move_rows.Given as goal

abbrev pub invariant-loop-at : goal.invariant-loop-at
invariant-loop-at l = Moved l.fn.from.slots l.fn.from.arrivals l.fn.to.room l.at l.from l.to
