use Rattle.mq_law_ran.proofs.Lawfuls as lawfuls
use Rattle.mq_law_ran.proofs.histories_rise.Goals as goal

pub returns : goal.returns
returns c = lawfuls.rise
