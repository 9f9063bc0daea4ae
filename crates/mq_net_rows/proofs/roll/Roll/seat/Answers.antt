use Rattle.std.specs.Str.{bytes_eq}
use Rattle.indexmap.specs.IndexMap.{get}
use Rattle.mq_net_rows.proofs.RollLaws.{seated_or}
use Rattle.mq_net_rows.proofs.roll.Roll.seat.Goals as goal

pub invariant_of-self : goal.invariant_of-self
invariant_of-self c =
    seated_or c.seat_at.result (get bytes_eq c.self.inside.places) c.args.lane c.args.slot c.args.at c.self.inside.queues c.seat_at.new.queues c.self.invariant c.seat_at.ensures.seated c.seat_at.ensures.same
