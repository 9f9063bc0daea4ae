use Rattle.mq_calls.specs.Reads.{stored}
use Rattle.mq_law_manager.proofs.Lists.{distinct_of}
use Rattle.mq_law_manager.proofs.queues_are_queues.Goals as goal

pub returns : goal.returns
returns c = λ name p h. record { distinct = distinct_of (stored name p).rows (h.facts.apart.once name); in_order = h.facts.ordered.in_order name; counted = h.facts.ordered.counted name; fits = h.facts.ordered.fits name }
