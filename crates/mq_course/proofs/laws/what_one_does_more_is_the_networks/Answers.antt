use Rattle.mq_course.proofs.CourseLaws.{one_does}
use Rattle.mq_course.proofs.laws.what_one_does_more_is_the_networks.Goals as goal

pub returns : goal.returns
returns c = one_does
