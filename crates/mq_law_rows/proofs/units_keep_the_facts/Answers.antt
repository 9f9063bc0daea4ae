use Rattle.mq_law_rows.proofs.Units as units
use Rattle.mq_law_rows.proofs.units_keep_the_facts.Goals as goal

pub returns : goal.returns
returns c = record {
  pended = units.pends;
  held = units.holds_row;
  taken = units.takes_gets;
  unpended = units.unpends;
  backed_out = units.backs_out;
}
