use Rattle.mq_shared.proofs.phasing.run.Given as goal

abbrev pub ghost-run_in : goal.ghost-run_in
ghost-run_in g a = record { scenario = a.scenario.now; scripts = a.scripts.now }
