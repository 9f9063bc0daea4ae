use Rattle.mq_recover.specs.Kept.{is_known}
use Rattle.mq_recover.proofs.senders.Senders.number.Goals as goal

pub invariant_of-self : goal.invariant_of-self
invariant_of-self c = record { low = c.self.invariant.low; each = c.number.ensures.kept (is_known c.self.inside.struck) c.self.inside.clock c.self.invariant.each }
