use Rattle.mq_course.proofs.CourseLaws.{histories_have}
use Rattle.mq_course.proofs.laws.histories_have_what_was_done.Goals as goal

pub returns : goal.returns
returns c = histories_have
