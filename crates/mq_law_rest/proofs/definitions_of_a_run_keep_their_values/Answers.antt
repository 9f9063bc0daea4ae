use Rattle.mq_law_rest.proofs.Valued.{calls_until, values_of}
use Rattle.mq_law_rest.proofs.definitions_of_a_run_keep_their_values.Goals as goal

pub returns-clause-values : goal.returns-clause-values
returns-clause-values c = values_of

pub returns-clause-calls : goal.returns-clause-calls
returns-clause-calls c = calls_until
