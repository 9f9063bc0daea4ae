use Rattle.mq_restart.proofs.RestartLaws.{restarted_seen, restarted_tied}
use Rattle.mq_restart.proofs.starting.a_restart_comes_up_as_its_history_says.Goals as goal

pub returns : goal.returns
returns c = record { seen = restarted_seen; tied = restarted_tied }
