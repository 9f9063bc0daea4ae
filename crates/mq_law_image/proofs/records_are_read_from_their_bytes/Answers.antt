use Rattle.mq_law_image.proofs.Readable.{readable}
use Rattle.mq_law_image.proofs.records_are_read_from_their_bytes.Goals as goal

pub returns : goal.returns
returns c = readable
