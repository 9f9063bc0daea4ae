use Rattle.std.proofs.Common.{subst, sym}
use Rattle.mq_events.specs.Counts.{IsNode}
use Rattle.mq_events.proofs.CountLaws.{marked_counted}
use Rattle.mq_events.proofs.node.Node.mark.Goals as goal

pub invariant_of-self : goal.invariant_of-self
invariant_of-self g c = subst IsNode (sym c.mark.ensures) (marked_counted c.args.idle c.self.inside.parts c.self.invariant)
