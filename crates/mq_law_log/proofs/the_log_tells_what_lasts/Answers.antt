use Rattle.mq_law_log.proofs.Ties.{part_tied, restart_tied, written_tied, started_tied}
use Rattle.mq_law_log.proofs.the_log_tells_what_lasts.Goals as goal

pub returns : goal.returns
returns c = record { parts = part_tied; restarts = restart_tied; writes = written_tied; starts = started_tied }
