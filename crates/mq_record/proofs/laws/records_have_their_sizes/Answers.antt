use Rattle.mq_record.proofs.SizeLaws.{record_whole}
use Rattle.mq_record.proofs.laws.records_have_their_sizes.Goals as goal

pub returns : goal.returns
returns c = record_whole
