use Rattle.mq_law_stopped.proofs.Committing.{commit_lasts}
use Rattle.mq_law_stopped.proofs.Leaving as leaving
use Rattle.mq_law_stopped.proofs.found_writes_leave_sound_managers.Goals as goal

pub returns : goal.returns
returns c = record { words = leaving.word_lasts; prepared = leaving.prepared_lasts; settled = leaving.settled_lasts; left = leaving.leaves; commits = commit_lasts; calm = leaving.hardened_calm }
