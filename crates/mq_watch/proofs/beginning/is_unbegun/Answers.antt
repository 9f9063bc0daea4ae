use Rattle.std.proofs.Common.{not, ap, ◌∙◌}
use Rattle.mq_watch.proofs.BeginLaws.{none_done}
use Rattle.mq_watch.proofs.beginning.is_unbegun.Goals as goal

pub returns : goal.returns
returns c = ap not c.has_begun.ensures ∙ none_done c.args.number c.args.entries.now
