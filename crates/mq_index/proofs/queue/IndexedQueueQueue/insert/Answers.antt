use Rattle.std.proofs.Common.{ap, arith, subst, ◌≡◌, ◌+◌}
use Rattle.mq_queue.specs.Rows.{insert_row}
use Rattle.mq_queue.specs.Queues.{row_of}
use Rattle.mq_queue.specs.Standing.{Standing}
use Rattle.mq_index.specs.Lanes.{in_order}
use Rattle.mq_index.specs.Walks.{stored}
use Rattle.mq_index.proofs.InsertLaws.{low_lane, queue_more, rows_more}
use Rattle.mq_index.proofs.RowLaws.{lacks_row}
use Rattle.mq_index.proofs.queue.IndexedQueueQueue.insert.Goals as goal

pub push-requires : goal.push-requires
push-requires c = record {
  room = rw (← c.self.view_is) at c.requires.room;
  fresh = lacks_row c.args.message.ident c.self.inside.store.slots c.arrivals-arrival.ensures.lanes (rw (← c.self.view_is) at c.requires.fresh);
  lane = low_lane c.self.inside.by_priority c.args.message c.lane_of-lane.result c.lane_of-lane.ensures;
  later = omega (arith, c.arrivals-arrival.ensures.arrivals);
}

pub invariant_of-self : goal.invariant_of-self
invariant_of-self c =
    queue_more c.self.inside.by_priority c.args.message c.self.inside.store.slots c.push.new.self.slots c.lane_of-lane.result (c.arrivals-arrival.result + 1) c.push.new.self.arrivals c.self.inside.store.arrivals c.lane_of-lane.ensures (ap (λ n. n + 1) c.arrivals-arrival.ensures.arrivals) c.push.ensures.arrivals c.push.ensures.slots
    (rw (← c.self.view_is) at c.requires.fresh) c.self.invariant

pub returns-clause-rows : goal.returns-clause-rows
returns-clause-rows c =
    subst (λ (s : Standing). in_order (stored c.push.new.self.slots) ≡ insert_row (row_of s.by_priority c.args.message (s.arrivals + 1)) s.rows) c.self.view_is
    (rows_more c.self.inside.by_priority c.args.message c.self.inside.store.slots c.push.new.self.slots c.lane_of-lane.result (c.arrivals-arrival.result + 1) c.self.inside.store.arrivals c.lane_of-lane.ensures (ap (λ n. n + 1) c.arrivals-arrival.ensures.arrivals) c.push.ensures.slots)
