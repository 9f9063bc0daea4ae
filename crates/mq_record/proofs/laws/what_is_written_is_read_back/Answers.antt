use Rattle.mq_record.proofs.KindLaws.{record_again}
use Rattle.mq_record.proofs.laws.what_is_written_is_read_back.Goals as goal

pub returns : goal.returns
returns c = record_again
