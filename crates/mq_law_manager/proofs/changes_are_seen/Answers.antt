use Rattle.mq_law_manager.proofs.SeenLaws.{applied}
use Rattle.mq_law_manager.proofs.changes_are_seen.Goals as goal

pub returns : goal.returns
returns c = applied
