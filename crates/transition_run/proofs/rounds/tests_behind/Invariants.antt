use Rattle.transition_run.proofs.rounds.tests_behind.Given as goal

abbrev pub ghost-tests_of : goal.ghost-tests_of
ghost-tests_of g a = g.refutes
