use Rattle.mq_law_image.proofs.Starting.{first_told}
use Rattle.mq_law_image.proofs.a_first_start_has_what_its_log_tells.Goals as goal

pub returns : goal.returns
returns c = first_told
