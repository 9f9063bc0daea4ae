use Rattle.mq_index.proofs.store.Store.reserve.Goals as goal

pub invariant_of-self : goal.invariant_of-self
invariant_of-self c = (c.self.invariant.0, c.reserve.ensures.index, c.self.invariant.2, c.self.invariant.3, c.self.invariant.4, c.self.invariant.5, c.self.invariant.6, c.reserve.ensures.room c.self.inside.room c.self.invariant.7, c.self.invariant.8)
