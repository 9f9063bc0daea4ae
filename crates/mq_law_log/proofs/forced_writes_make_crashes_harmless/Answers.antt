use Rattle.mq_law_log.proofs.Harmless.{put_harmless, removal_harmless, commit_harmless}
use Rattle.mq_law_log.proofs.forced_writes_make_crashes_harmless.Goals as goal

pub returns : goal.returns
returns c = record { puts = put_harmless; removals = removal_harmless; commits = commit_harmless }
