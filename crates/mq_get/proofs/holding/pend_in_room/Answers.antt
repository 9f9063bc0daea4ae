use Rattle.mq_get.proofs.PathLaws.{gave_more}
use Rattle.mq_get.proofs.holding.pend_in_room.Goals as goal

pub returns-in-Err-clause-err : goal.returns-in-Err-clause-err
returns-in-Err-clause-err g c = gave_more c.args.room c.args.parts.now c.pend_take.new.parts c.return_room.new.parts c.in-Err.ensures.err c.return_room.ensures
