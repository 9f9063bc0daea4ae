use Rattle.mq_law_rest.proofs.Places.{step_of}
use Rattle.mq_law_rest.proofs.Steps.{net_same}
use Rattle.mq_law_rest.proofs.steps_of_runs_have_their_places.Goals as goal

pub returns-clause-same : goal.returns-clause-same
returns-clause-same c = net_same

pub returns-clause-pumps : goal.returns-clause-pumps
returns-clause-pumps c = step_of
