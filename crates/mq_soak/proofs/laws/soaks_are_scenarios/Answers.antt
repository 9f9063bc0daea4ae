use Rattle.mq_soak.proofs.Soaks as soaks
use Rattle.mq_soak.proofs.laws.soaks_are_scenarios.Goals as goal

pub returns : goal.returns
returns c = soaks.is_scenario
