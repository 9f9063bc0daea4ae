use Rattle.mq_law_receipts.proofs.Numbering.{all_kept}
use Rattle.mq_law_receipts.proofs.connections_keep_their_numbers.Goals as goal

pub returns : goal.returns
returns c = all_kept
