use Rattle.std.proofs.Common.{◌∙◌, ap}
use Rattle.run_files.specs.Runs.{contents_of, files_of}
use Rattle.atpg_top.specs.Checks.{told}
use Rattle.atpg_top.proofs.laws.runs_pass.Goals as goal

pub returns : goal.returns
returns c n asked made sound run d due = due.2 ∙ ap told (c.good_files_checked.ensures (files_of made) (contents_of n run.file run.evidence made) sound run.good due.0 due.1)
