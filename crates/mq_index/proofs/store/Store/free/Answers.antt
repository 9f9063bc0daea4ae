use Rattle.std.proofs.Common.{ap, arith, subst, ◌≡◌, ◌∙◌}
use Rattle.std.specs.Prelude.{slice_index}
use Rattle.mq_queue.specs.Queues.{count_waiting}
use Rattle.mq_queue.specs.Counts.{weight}
use Rattle.mq_index.specs.Lanes.{in_order}
use Rattle.mq_index.specs.Slots.{total}
use Rattle.mq_index.specs.Stores.{StoreState}
use Rattle.mq_index.specs.Walks.{stored}
use Rattle.mq_index.proofs.OrderLaws.{order_count}
use Rattle.mq_index.proofs.store.Store.free.Goals as goal

pub returns-then-least-lt10 : goal.returns-then-least-lt10
returns-then-least-lt10 c =
    subst (λ (t : StoreState). slice_index c.self.inside.frees c.args.least ≡ count_waiting c.args.least (in_order (stored t.slots))) c.self.view_is
    (c.self.invariant.3 c.args.least (omega (arith, c.if-least-lt10.true)) ∙ order_count c.args.least c.self.inside.slots.items c.self.invariant.0.lane)

pub returns-else-least-lt10 : goal.returns-else-least-lt10
returns-else-least-lt10 c =
    subst (λ (t : StoreState). c.count_rows.result ≡ count_waiting c.args.least (in_order (stored t.slots))) c.self.view_is
    (c.count_rows.ensures ∙ ap (total (weight c.args.least)) c.deref.ensures.value ∙ order_count c.args.least c.self.inside.slots.items c.self.invariant.0.lane)
