use Rattle.std.proofs.Common.{ap}
use Rattle.mq_core.specs.from_unit.Told.{Telling}
use Rattle.mq_core.specs.Views.{plain_of, frozen_of}
use Rattle.mq_redo.proofs.WriteLaws.{told_settled}
use Rattle.mq_redo.proofs.writes.tell_settlement.Goals as goal

pub returns : goal.returns
returns g c = record {
  ok = told_settled c.args.channel.now c.args.unit.now c.args.commit c.args.operator c.args.rows.now (frozen_of c.args.parts.now) (plain_of c.args.parts.now) c.args.effects.now.dids c.reserve.new.self.dids c.tell_all_settled.new.effects.dids c.tell.new.self c.requires.none c.reserve.ensures.dids c.tell_all_settled.ensures.dids (ap (λ (t : Telling). t.dids) c.tell.ensures);
}
