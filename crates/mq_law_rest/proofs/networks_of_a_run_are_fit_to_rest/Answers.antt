use Rattle.mq_law_rest.proofs.Good.{good, restful}
use Rattle.mq_law_rest.proofs.networks_of_a_run_are_fit_to_rest.Goals as goal

pub returns-clause-good : goal.returns-clause-good
returns-clause-good c = good

pub returns-clause-restful : goal.returns-clause-restful
returns-clause-restful c = restful
