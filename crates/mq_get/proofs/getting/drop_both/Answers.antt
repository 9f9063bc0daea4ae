use Rattle.mq_get.proofs.PathLaws.{both_dropped}
use Rattle.mq_get.proofs.getting.drop_both.Goals as goal

pub returns : goal.returns
returns g c = both_dropped c.args.queue.now c.args.gone c.args.taken c.args.parts.now c.args.effects.now c.drop_rows.new.parts c.drop_rows.new.effects c.drop_rows-2.result c.drop_rows-2.new.parts c.drop_rows-2.new.effects c.in-Ok.ensures c.drop_rows-2.ensures
