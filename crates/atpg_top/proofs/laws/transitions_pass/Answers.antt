use Rattle.std.proofs.Common.{◌∙◌, ap}
use Rattle.transition_run.specs.Runs.{slow_contents_of, transition_files_of}
use Rattle.atpg_top.specs.Checks.{told}
use Rattle.atpg_top.proofs.laws.transitions_pass.Goals as goal

pub returns : goal.returns
returns c n holds asked limit refutes made sound design run d due =
    due.2 ∙ ap told (c.good_slow_files_checked.ensures (transition_files_of made) (slow_contents_of n run.file run.evidence made) sound design run.good due.0 due.1)
