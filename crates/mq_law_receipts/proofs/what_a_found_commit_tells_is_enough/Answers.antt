use Rattle.mq_law_receipts.proofs.Losing.{found_posts}
use Rattle.mq_law_receipts.proofs.what_a_found_commit_tells_is_enough.Goals as goal

pub returns : goal.returns
returns c = found_posts
