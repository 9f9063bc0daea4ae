use Rattle.std.proofs.Common.{◌∙◌}
use Rattle.mq_watch.proofs.BeginLaws.{named_is}
use Rattle.mq_watch.proofs.beginning.script_named.Goals as goal

pub returns : goal.returns
returns c = c.first_named.ensures ∙ named_is c.args.label.now c.args.scripts.now
