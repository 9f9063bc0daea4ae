use Rattle.mq_steer.proofs.AlterLaws.{may_lane}
use Rattle.mq_steer.proofs.commands.follow_local.Goals as goal

pub renew-requires-clause-lanes : goal.renew-requires-clause-lanes
renew-requires-clause-lanes g c = may_lane c.args.queue.now c.args.reroutes c.args.on c.args.parts.now c.requires.can
