use Rattle.mq_record.proofs.BodyLaws.{one_body}
use Rattle.mq_record.proofs.laws.a_body_is_one_record.Goals as goal

pub returns : goal.returns
returns c = one_body
