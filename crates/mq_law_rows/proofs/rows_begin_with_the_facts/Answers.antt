use Rattle.mq_law_rows.proofs.Opened as opened
use Rattle.mq_law_rows.proofs.rows_begin_with_the_facts.Goals as goal

pub returns : goal.returns
returns c = opened.opens
