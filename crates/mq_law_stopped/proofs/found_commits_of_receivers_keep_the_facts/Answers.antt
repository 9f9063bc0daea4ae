use Rattle.mq_law_stopped.proofs.Committing.{commit_found}
use Rattle.mq_law_stopped.proofs.found_commits_of_receivers_keep_the_facts.Goals as goal

pub returns : goal.returns
returns c = commit_found
