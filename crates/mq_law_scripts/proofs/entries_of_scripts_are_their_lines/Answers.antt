use Rattle.mq_law_scripts.proofs.Stepping as stepping
use Rattle.mq_law_scripts.proofs.entries_of_scripts_are_their_lines.Goals as goal

pub returns : goal.returns
returns c = stepping.scripts_are
