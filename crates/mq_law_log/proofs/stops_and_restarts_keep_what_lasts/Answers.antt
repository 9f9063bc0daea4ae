use Rattle.mq_law_log.proofs.Stops.{rest_lasts, restart_recovers}
use Rattle.mq_law_log.proofs.stops_and_restarts_keep_what_lasts.Goals as goal

pub returns : goal.returns
returns c = record { stops = rest_lasts; restarts = restart_recovers }
