use Rattle.std.proofs.Common.{arith}
use Rattle.mq_index.specs.Slots.{one}
use Rattle.mq_index.proofs.SlotLaws.{total_long}
use Rattle.mq_index.proofs.store.Store.needs.Goals as goal

pub overflow_add-result : goal.overflow_add-result
overflow_add-result c =
    let few = total_long one c.self.inside.slots.items (λ row. omega arith) in
    omega (arith, few, c.self.invariant.4, c.self.invariant.5, c.self.inside.slots.small, c.self.inside.slots.ok.0, c.self.inside.slots.ok.1)
