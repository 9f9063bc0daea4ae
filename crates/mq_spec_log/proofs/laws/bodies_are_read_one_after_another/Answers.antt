use Rattle.mq_spec_log.proofs.BodyLaws.{record_back, image_more}
use Rattle.mq_spec_log.proofs.laws.bodies_are_read_one_after_another.Goals as goal

pub returns-clause-records : goal.returns-clause-records
returns-clause-records c = record_back

pub returns-clause-more : goal.returns-clause-more
returns-clause-more c = image_more
