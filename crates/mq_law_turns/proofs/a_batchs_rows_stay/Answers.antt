use Rattle.mq_law_turns.proofs.Reading.{stays}
use Rattle.mq_law_turns.proofs.a_batchs_rows_stay.Goals as goal

pub returns : goal.returns
returns c = stays
