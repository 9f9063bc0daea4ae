use Rattle.mq_record.proofs.BodyLaws.{one_record}
use Rattle.mq_record.proofs.laws.no_record_begins_another.Goals as goal

pub returns : goal.returns
returns c = one_record
