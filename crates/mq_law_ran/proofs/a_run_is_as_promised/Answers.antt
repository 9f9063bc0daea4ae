use Rattle.mq_law_ran.proofs.Lawfuls as lawfuls
use Rattle.mq_law_ran.proofs.a_run_is_as_promised.Goals as goal

pub returns : goal.returns
returns c = record { rows = lawfuls.rows_are; once = lawfuls.once; got_once = lawfuls.got_once; order = lawfuls.order }
