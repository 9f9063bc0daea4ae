use Rattle.mq_law_receipts.proofs.Cabling.{cabled}
use Rattle.mq_law_receipts.proofs.cables_lead_where_they_say.Goals as goal

pub returns : goal.returns
returns c = cabled
