use Rattle.std.proofs.Common.{◌∙◌}
use Rattle.mq_core.specs.Views.{plain_of}
use Rattle.mq_takes.proofs.TakenLaws.{taken_step}
use Rattle.mq_takes.proofs.taking.taken_in.Goals as goal

pub loop-message-preserved : goal.loop-message-preserved
loop-message-preserved g c = taken_step _ _ _ _ _ (plain_of c.args.parts.now) c.loop-message-test.true c.message-item.is c.in-Ok.ensures.ok ∙ c.loop-message.invariant
