use Rattle.mq_shared.proofs.sharing.lock_one.Given as goal

abbrev pub ghost-hold_scripts : goal.ghost-hold_scripts
ghost-hold_scripts g a = g.P.PhaseName.begun
