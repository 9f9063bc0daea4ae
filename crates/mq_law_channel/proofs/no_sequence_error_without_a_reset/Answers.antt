use Rattle.mq_law_channel.proofs.Agreeing.{status_runs}
use Rattle.mq_law_channel.proofs.no_sequence_error_without_a_reset.Goals as goal

pub returns : goal.returns
returns c = status_runs
