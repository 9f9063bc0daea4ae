use Rattle.mq_moves.proofs.LandLaws.{dead_long}
use Rattle.mq_moves.proofs.rules.header_off.Goals as goal

pub split_at-requires : goal.split_at-requires
split_at-requires c = dead_long c.args.body.now c.requires
