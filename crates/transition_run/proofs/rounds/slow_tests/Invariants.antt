use Rattle.transition_run.proofs.rounds.slow_tests.Given as goal

abbrev pub ghost-rest_behind : goal.ghost-rest_behind
ghost-rest_behind g a = g.E.Engine.refutes

abbrev pub ghost-tests_behind : goal.ghost-tests_behind
ghost-tests_behind g a = g.E.Engine.refutes
