use Rattle.mq_law_keys.proofs.Keeping as keeping
use Rattle.mq_law_keys.proofs.Starting.{run_keyed}
use Rattle.mq_law_keys.proofs.ends_keep_their_keys.Goals as goal

pub returns : goal.returns
returns c = record { events = keeping.events; runs = run_keyed }
