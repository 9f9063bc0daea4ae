use Rattle.std.proofs.Common.{◌≡◌}
use Rattle.std.specs.VecDeque.{deque_len, deque_capacity}
use Rattle.mq_queue.specs.Queues.{unit_freed}
use Rattle.mq_queue.proofs.StopLaws.{retag_first}
use Rattle.mq_queue.proofs.rows.free_units.Given as goal

abbrev pub invariant-loop-at : goal.invariant-loop-at
invariant-loop-at l = record {
  so_far : l.rows.items ≡ retag_first unit_freed l.at l.fn.rows.items;
  len : deque_len l.rows ≡ deque_len l.fn.rows;
  capacity : deque_capacity l.rows ≡ deque_capacity l.fn.rows;
}
