use Rattle.mq_progress.proofs.CourseLaws.{stands_first, stands_further, stands_others}
use Rattle.mq_progress.proofs.laws.progress_is_the_historys.Goals as goal

pub returns-clause-begins : goal.returns-clause-begins
returns-clause-begins c = stands_first

pub returns-clause-lines : goal.returns-clause-lines
returns-clause-lines c = stands_further

pub returns-clause-others : goal.returns-clause-others
returns-clause-others c = stands_others
