use Rattle.mq_law_rest.proofs.Fitting.{fit_at}
use Rattle.mq_law_rest.proofs.managers_of_a_run_fit.Goals as goal

pub returns : goal.returns
returns c = fit_at
