use Rattle.mq_law_events.proofs.Stepping as stepping
use Rattle.mq_law_events.proofs.the_network_follows_its_manager.Goals as goal

pub returns : goal.returns
returns c = stepping.follows_on
