use Rattle.std.proofs.Common.{◌∙◌}
use Rattle.mq_trigger.proofs.SeenLaws.{seen}
use Rattle.mq_trigger.proofs.condition.is_triggered.Goals as goal

pub returns : goal.returns
returns c = λ p s. c.is_due.ensures ∙ seen c.args.defs.now.definitions c.args.live.now.live c.args.seizures.now c.args.local.now c.args.tried.now p s
