use Rattle.mq_record.specs.Reading.{add_at, several_at}
use Rattle.mq_record.proofs.LoopLaws.{goes_on, ends, is_done}
use Rattle.mq_record.proofs.lists.several_adds.Goals as goal

pub returns-in-Err : goal.returns-in-Err
returns-in-Err c = ends add_at c.in-Err.stop c.adds.adds c.args.count c.adds.counter c.adds.rest.now (several_at add_at c.args.count c.args.bytes.now) c.adds-test.true c.in-Err.ensures c.adds.invariant

pub adds-preserved : goal.adds-preserved
adds-preserved c =
    rw c.in_ok-push.ensures.ok (goes_on add_at c.adds.adds c.args.count c.adds.counter c.adds.rest.now c.in-Ok.found.0 c.in-Ok.found.1.now (several_at add_at c.args.count c.args.bytes.now) c.adds-test.true c.in-Ok.ensures c.adds.invariant)

pub returns : goal.returns
returns c = is_done add_at c.adds.adds c.args.count c.adds.counter c.adds.rest.now (several_at add_at c.args.count c.args.bytes.now) c.adds-test.false c.adds.invariant
