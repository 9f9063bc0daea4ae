use Rattle.mq_takes.proofs.PlaceLaws.{closed_from, was_twice}
use Rattle.mq_takes.proofs.receiving.close_for.Goals as goal

pub returns-in-Err : goal.returns-in-Err
returns-in-Err g c = λ old step is was. was_twice old c.args.manager.now c.close.new.manager was c.in-Err.ensures

pub returns-in-Ok : goal.returns-in-Ok
returns-in-Ok g c = λ old step is was. (is, closed_from c.args.end.now c.in-Ok.told.choice c.in-Ok.told.delta old c.args.manager.now c.close.new.manager was c.in-Ok.ensures)
