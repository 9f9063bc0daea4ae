use Rattle.mq_frame.specs.declared.fault.Stop.TheVariants as stops
use Rattle.mq_record.specs.Reading.{remove_at, several_at}
use Rattle.mq_record.proofs.LoopLaws.{goes_on, ends, is_done}
use Rattle.mq_record.proofs.lists.several_removes.Goals as goal

pub returns-in-Err : goal.returns-in-Err
returns-in-Err c = ends remove_at (stops.Miss c.in-Err.miss) c.removes.removes c.args.count c.removes.counter c.removes.rest.now (several_at remove_at c.args.count c.args.bytes.now) c.removes-test.true c.in-Err.ensures c.removes.invariant

pub removes-preserved : goal.removes-preserved
removes-preserved c =
    rw c.in_ok-push.ensures.ok (goes_on remove_at c.removes.removes c.args.count c.removes.counter c.removes.rest.now c.in-Ok.found.0 c.in-Ok.found.1.now (several_at remove_at c.args.count c.args.bytes.now) c.removes-test.true c.in-Ok.ensures c.removes.invariant)

pub returns : goal.returns
returns c = is_done remove_at c.removes.removes c.args.count c.removes.counter c.removes.rest.now (several_at remove_at c.args.count c.args.bytes.now) c.removes-test.false c.removes.invariant
