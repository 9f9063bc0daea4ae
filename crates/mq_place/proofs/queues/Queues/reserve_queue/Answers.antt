use Rattle.std.proofs.Common.{arith}
use Rattle.mq_place.specs.Homes.{home_of}
use Rattle.mq_place.proofs.DueLaws.{listed_reserved}
use Rattle.mq_place.proofs.HomeLaws.{noted}
use Rattle.mq_place.proofs.queues.Queues.reserve_queue.Goals as goal

pub invariant_of-self-2 : goal.invariant_of-self-2
invariant_of-self-2 g c = (
  noted (home_of c.self.inside.homes) c.self.inside.named.states c.self.inside.named.states _ _ _ c.self.invariant.0 c.reserve_queue.ensures.states c.self.invariant.0.0 (omega arith),
  listed_reserved _ _ _ _ c.reserve.ensures c.reserve_queue.ensures.states c.self.invariant.1,
)
