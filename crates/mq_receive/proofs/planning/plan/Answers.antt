use Rattle.std.proofs.Common.{◌+◌, drop}
use Rattle.mq_spec_manager.specs.Agents.{landed}
use Rattle.mq_core.specs.Views.{plain_of}
use Rattle.mq_receive.proofs.PlanLaws.{plan_at, plan_stops}
use Rattle.mq_receive.proofs.planning.plan.Goals as goal

pub loop-message-preserved : goal.loop-message-preserved
loop-message-preserved g c =
    c.in-Ok.ensures (landed c.args.channel.now c.args.batch.now (plain_of c.args.parts.now)) _ (plan_at _ _ _ _ _ _ _ c.loop-message-test.true c.message-item.is c.loop-message.invariant)

pub returns-in-Err : goal.returns-in-Err
returns-in-Err g c =
    plan_stops c.args.channel.now c.args.batch.now (drop (c.loop-message.message-index + 1) c.args.batch.now) (plain_of c.args.parts.now) c.in-Err.fault _
    (c.in-Err.ensures (landed c.args.channel.now c.args.batch.now (plain_of c.args.parts.now)) (drop (c.loop-message.message-index + 1) c.args.batch.now)
    (plan_at _ _ _ _ _ _ _ c.loop-message-test.true c.message-item.is c.loop-message.invariant))
