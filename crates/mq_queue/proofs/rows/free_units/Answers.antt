use Rattle.std.proofs.Common.{refl, sym, arith}
use Rattle.mq_queue.specs.Queues.{unit_freed}
use Rattle.mq_queue.proofs.StopLaws.{retag_none, retag_next, retag_end}
use Rattle.mq_queue.proofs.rows.free_units.Goals as goal

pub loop-at-init : goal.loop-at-init
loop-at-init c = record { so_far = sym (retag_none unit_freed c.args.rows.now.items); len = refl; capacity = refl }

pub loop-at-preserved : goal.loop-at-preserved
loop-at-preserved c = record {
  so_far = retag_next unit_freed c.args.rows.now.items c.loop-at.rows.items c.loop-at.at c.index_mut.result.now c.free_by_unit.new.row c.loop-at.invariant.so_far
      (omega (arith, c.loop-at-test.true, c.len-at-end.ensures, c.loop-at.invariant.len, c.loop-at.rows.ok.0)) c.index_mut.ensures.value c.free_by_unit.ensures;
  len = c.loop-at.invariant.len;
  capacity = c.loop-at.invariant.capacity;
}

pub returns-clause-rows : goal.returns-clause-rows
returns-clause-rows c =
    retag_end unit_freed c.args.rows.now.items c.loop-at.rows.items c.loop-at.at c.loop-at.invariant.so_far
    (omega (arith, c.loop-at-test.false, c.loop-at.auto.at-end, c.len-at-end.ensures, c.loop-at.invariant.len, c.loop-at.rows.ok.0))
