use Rattle.mq_law_rows.proofs.Placing as placing
use Rattle.mq_law_rows.proofs.Settling as settling
use Rattle.mq_law_rows.proofs.rows_that_come_and_go_keep_the_facts.Goals as goal

pub returns : goal.returns
returns c = record {
  given = placing.gives;
  placed = placing.places_row;
  lifted = placing.lifts_row;
  buried = placing.buries;
  lost = settling.loses;
}
