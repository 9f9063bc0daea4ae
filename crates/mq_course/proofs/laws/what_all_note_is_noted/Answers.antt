use Rattle.mq_course.proofs.CourseLaws.{all_note}
use Rattle.mq_course.proofs.laws.what_all_note_is_noted.Goals as goal

pub returns : goal.returns
returns c = all_note
