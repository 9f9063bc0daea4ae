use Rattle.std.proofs.Common.{length, subst, ◌≡◌, ◌∙◌}
use Rattle.mq_index.specs.Lanes.{in_order}
use Rattle.mq_index.specs.Stores.{StoreState}
use Rattle.mq_index.specs.Walks.{stored}
use Rattle.mq_index.proofs.OrderLaws.{order_long}
use Rattle.mq_index.proofs.store.Store.live.Goals as goal

pub returns : goal.returns
returns c = subst (λ (t : StoreState). c.self.inside.live ≡ length (in_order (stored t.slots))) c.self.view_is (c.self.invariant.4 ∙ order_long c.self.inside.slots.items c.self.invariant.0.lane)
