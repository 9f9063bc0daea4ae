use Rattle.mq_law_ran.proofs.Lawfuls as lawfuls
use Rattle.mq_law_ran.proofs.a_run_is_lawful.Goals as goal

pub returns : goal.returns
returns c = record { steps = lawfuls.lawful; carried = lawfuls.carried_none; begun = lawfuls.begun }
