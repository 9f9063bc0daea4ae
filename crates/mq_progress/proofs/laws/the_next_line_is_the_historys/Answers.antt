use Rattle.mq_progress.proofs.CourseLaws.{next_here}
use Rattle.mq_progress.proofs.laws.the_next_line_is_the_historys.Goals as goal

pub returns : goal.returns
returns c = next_here
