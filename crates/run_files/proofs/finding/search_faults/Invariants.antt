use Rattle.run_files.proofs.finding.search_faults.Given as goal

abbrev pub ghosts-search_named : goal.ghosts-search_named
ghosts-search_named g a =
    record { subject = record { netlist = a.errand.now.core.now; faults = a.faults.now; limit = a.plan.limit; holds = a.errand.now.holds.now; refutes = g.E.Engine.refutes } }
