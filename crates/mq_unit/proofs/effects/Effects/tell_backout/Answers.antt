use Rattle.std.proofs.Common.{arith}
use Rattle.mq_unit.proofs.UnitLaws.{backout_fits}
use Rattle.mq_unit.proofs.effects.Effects.tell_backout.Goals as goal

pub tell_all_released-requires : goal.tell_all_released-requires
tell_all_released-requires c = let all = backout_fits c.args.unit.now in let room = c.requires in omega (arith, all, room)
