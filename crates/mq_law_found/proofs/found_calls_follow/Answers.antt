use Rattle.mq_law_found.proofs.Putting.{puts_noted, puts_once_noted}
use Rattle.mq_law_found.proofs.Getting.{gets_noted}
use Rattle.mq_law_found.proofs.Ending.{commits_noted, disconnects_noted}
use Rattle.mq_law_found.proofs.Obeying.{commands_noted}
use Rattle.mq_law_found.proofs.found_calls_follow.Goals as goal

pub returns : goal.returns
returns c = record { puts = puts_noted; puts_once = puts_once_noted; gets = gets_noted; commits = commits_noted; disconnects = disconnects_noted; commands = commands_noted }
