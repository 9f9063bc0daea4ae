use Rattle.mq_top.proofs.Soaking as soaking
use Rattle.mq_top.proofs.top.run_soak.Goals as goal

pub run_scenario-requires-clause-scenario : goal.run_scenario-requires-clause-scenario
run_scenario-requires-clause-scenario g c = λ κs longer. soaking.is_scenario c.args.n c.in-Ok.scenario c.in-Ok.ensures c.requires.few

pub run_scenario-requires-clause-texts : goal.run_scenario-requires-clause-texts
run_scenario-requires-clause-texts g c = λ κs longer. soaking.all_fit c.args.n c.in-Ok.scenario c.in-Ok.ensures
