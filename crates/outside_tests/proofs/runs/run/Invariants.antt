use Rattle.outside_tests.proofs.runs.run.Given as goal

abbrev pub ghosts-run_named : goal.ghosts-run_named
ghosts-run_named g a = record { subject = record { netlist = a.errand.now.core.now; faults = a.faults.now; limit = 32; holds = a.errand.now.holds.now; refutes = g.E.Engine.refutes } }
