use Rattle.mq_law_deeds.proofs.Telling as telling
use Rattle.mq_law_deeds.proofs.deltas_tell_commits_and_settlements.Goals as goal

pub returns : goal.returns
returns c = record { commits = telling.commits_told; settlements = telling.settles_told; prefixes = telling.in_prefix }
