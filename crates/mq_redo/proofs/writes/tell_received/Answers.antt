use Rattle.std.proofs.Common.{ap}
use Rattle.mq_core.specs.from_unit.Told.{Telling}
use Rattle.mq_core.specs.Views.{plain_of, frozen_of}
use Rattle.mq_redo.proofs.ArrivalLaws.{told_received}
use Rattle.mq_redo.proofs.writes.tell_received.Goals as goal

pub returns : goal.returns
returns g c = record {
  ok = told_received c.args.channel.now c.args.unit.now c.args.last c.args.landed.now (frozen_of c.args.parts.now) (plain_of c.args.parts.now) c.args.effects.now.dids c.reserve.new.self.dids c.tell_all_arrived.new.effects.dids c.tell.new.self c.requires.none c.reserve.ensures.dids c.tell_all_arrived.ensures.dids (ap (λ (t : Telling). t.dids) c.tell.ensures);
}
