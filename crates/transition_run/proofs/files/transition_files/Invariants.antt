use Rattle.transition_run.proofs.files.transition_files.Given as goal

abbrev pub ghost-files_of : goal.ghost-files_of
ghost-files_of g a = g.E.Engine.refutes
