use Rattle.mq_split.proofs.joining.join_at.Given as goal

abbrev pub ghost-join_again : goal.ghost-join_again
ghost-join_again g a = g.p.passed
