use Rattle.mq_law_deeds.proofs.Agreeing.{entries_agree}
use Rattle.mq_law_deeds.proofs.entries_without_conflict_agree.Goals as goal

pub returns : goal.returns
returns c = entries_agree
